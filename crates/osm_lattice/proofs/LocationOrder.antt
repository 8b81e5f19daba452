-- The order of locations in Rust's words and in signs.
use Rattle.std.proofs.Common.{◌≡◌, ℤ, ◌-ℤ◌, refl, sym, ◌∙◌, arith}
use Rattle.std.specs.declared.cmp.Ordering.TheVariants.{Equal, Less}
use Rattle.std.specs.Ordering.{int_cmp, is_eq, is_gt, is_lt, ordering_then}
use Rattle.std.specs.Cmp.{IsTotalOrder}
use Rattle.std.proofs.lemmas.Int.{ints}
use Rattle.std.proofs.lemmas.Cmp.{int_cmp_total, then_total, on_total}
use Rattle.plane.specs.Sign.{Sign, Plus, Null, Minus, sign, then_sign, is_minus, is_null, is_plus}
use Rattle.plane.specs.Order.{order}
use Rattle.plane.specs.Edge.{IsRisingEdge}
use Rattle.plane.proofs.SignKit.{Says, says}
use Rattle.osm_lattice.specs.declared.loc.Loc.{Loc}
use Rattle.osm_lattice.specs.declared.seg.Seg.{Seg}
use Rattle.osm_lattice.specs.Loc.{loc_cmp, vector_of}
use Rattle.osm_lattice.specs.Seg.{seg_cmp, edge_of}
use Rattle.osm_lattice.specs.OrderLaws.{ordering_of}
use Rattle.osm_lattice.specs.ConflictTests.{before}

pub loc_total : IsTotalOrder loc_cmp
loc_total = then_total (on_total (λ p. p.y) int_cmp_total) (on_total (λ p. p.x) int_cmp_total)

pub seg_total : IsTotalOrder seg_cmp
seg_total = then_total (on_total (λ s. s.a) loc_total) (on_total (λ s. s.b) loc_total)

-- an order of numbers is the sign of their difference
int_cmp-by : (x y : ℤ) (s : Sign) → Says s (y -ℤ x) → int_cmp x y ≡ ordering_of s
int_cmp-by x y Plus h = grind (arith, ints)
int_cmp-by x y Null h = grind (arith, ints)
int_cmp-by x y Minus h = grind (arith, ints)

pub int_cmp-is : (x y : ℤ) → int_cmp x y ≡ ordering_of (sign (y -ℤ x))
int_cmp-is x y = int_cmp-by x y (sign (y -ℤ x)) (says (y -ℤ x))

pub ordering_of-then : (s t : Sign) → ordering_then (ordering_of s) (ordering_of t) ≡ ordering_of (then_sign s t)
ordering_of-then Plus t = refl
ordering_of-then Null t = refl
ordering_of-then Minus t = refl

pub loc_cmp-is : (p q : Loc) → loc_cmp p q ≡ ordering_of (order (vector_of p) (vector_of q))
loc_cmp-is p q = rw (int_cmp-is p.y q.y, int_cmp-is p.x q.x) (ordering_of-then (sign (q.y -ℤ p.y)) (sign (q.x -ℤ p.x)))

pub is_lt-plus : (s : Sign) → is_lt (ordering_of s) ≡ is_plus s
is_lt-plus Plus = refl
is_lt-plus Null = refl
is_lt-plus Minus = refl

-- the same tests of an order, named for `using`
pub is_lt_plus : (s : Sign) → is_lt (ordering_of s) ≡ is_plus s
is_lt_plus s = is_lt-plus s

pub is_eq_null : (s : Sign) → is_eq (ordering_of s) ≡ is_null s
is_eq_null Plus = refl
is_eq_null Null = refl
is_eq_null Minus = refl

pub is_gt_minus : (s : Sign) → is_gt (ordering_of s) ≡ is_minus s
is_gt_minus Plus = refl
is_gt_minus Null = refl
is_gt_minus Minus = refl

pub is_lt_before : (p q : Loc) → is_lt (loc_cmp p q) ≡ before p q
unfolding before
is_lt_before p q = rw (loc_cmp-is p q) (is_lt-plus (order (vector_of p) (vector_of q)))

pub equal-null : (s : Sign) → ordering_of s ≡ Equal → s ≡ Null
equal-null Null h = refl
equal-null Plus h = cc
equal-null Minus h = cc

pub less-plus : (s : Sign) → ordering_of s ≡ Less → s ≡ Plus
less-plus Plus h = refl
less-plus Null h = cc
less-plus Minus h = cc

-- a segment's edge runs from its lesser end
pub rising_edge : (s : Seg) → IsRisingEdge (edge_of s)
rising_edge s = less-plus (order (vector_of s.a) (vector_of s.b)) (sym (loc_cmp-is s.a s.b) ∙ s.rising)
