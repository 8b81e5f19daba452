-- The tests of segments that need more than their definitions.
use Rattle.std.proofs.Common.{Bool, true, false, not, ℤ, ◌-ℤ◌, ◌≡◌, ◌∙◌, ◌&&◌, refl, sym, ap, ap₂, arith}
use Rattle.std.specs.declared.cmp.Ordering.{Ordering}
use Rattle.std.specs.declared.cmp.Ordering.TheVariants.{Less, Equal, Greater}
use Rattle.std.specs.Ordering.{is_eq}
use lib.Signed.{le_z, lt_z}
use Rattle.std.proofs.lemmas.Int.{ints}
use Rattle.plane.proofs.SignKit.{Says, says}
use Rattle.std.proofs.lemmas.Cmp.{tied_itself}
use Rattle.plane.specs.Sign.{Sign, Plus, Null, Minus, is_null, is_plus, sign, then_sign}
use Rattle.plane.specs.Vector.{same_point}
use Rattle.plane.proofs.PlaneKit.{same_point-refl, same_point-true}
use Rattle.osm_lattice.specs.declared.loc.Loc.{Loc}
use Rattle.osm_lattice.specs.declared.seg.Seg.{Seg}
use Rattle.osm_lattice.specs.Loc.{loc_cmp, vector_of}
use Rattle.osm_lattice.proofs.LatticeKit.{loc_total, rising_edge, loc_same, loc_from_vectors}
use Rattle.osm_sides.specs.SideTests.{level, same, span}

-- a location ties with itself alone
same_by : (p q : Loc) (b : Bool) (o : Ordering) → same_point (vector_of p) (vector_of q) ≡ b → loc_cmp p q ≡ o → is_eq o ≡ b
same_by p q true Equal e h = refl
same_by p q true Less e h =
    let one : p ≡ q = loc_from_vectors p q (same_point-true (vector_of p) (vector_of q) e) in
    let tied : loc_cmp p q ≡ Equal = rw one (tied_itself loc_total q) in cc
same_by p q true Greater e h =
    let one : p ≡ q = loc_from_vectors p q (same_point-true (vector_of p) (vector_of q) e) in
    let tied : loc_cmp p q ≡ Equal = rw one (tied_itself loc_total q) in cc
same_by p q false Less e h = refl
same_by p q false Greater e h = refl
same_by p q false Equal e h =
    let one : p ≡ q = loc_same p q h in
    let here : same_point (vector_of p) (vector_of q) ≡ true = rw one (same_point-refl (vector_of q)) in cc

pub same_is : (p q : Loc) → is_eq (loc_cmp p q) ≡ same p q
unfolding same
same_is p q = same_by p q (same_point (vector_of p) (vector_of q)) (loc_cmp p q) refl refl

flat_by : (s t : Sign) → then_sign s t ≡ Plus → not (is_plus s) ≡ is_null s
flat_by Plus t h = refl
flat_by Null t h = refl
flat_by Minus t h = cc

-- one number is below another where the difference is positive
pub lt_by : (x y : ℤ) (s : Sign) → Says s (y -ℤ x) → lt_z x y ≡ is_plus s
lt_by x y Plus h = grind (arith, ints)
lt_by x y Null h = grind (arith, ints)
lt_by x y Minus h = grind (arith, ints)

pub level_is : (s : Seg) → not (lt_z s.a.y s.b.y) ≡ level s
unfolding level
level_is s = ap not (lt_by s.a.y s.b.y (sign (s.b.y -ℤ s.a.y)) (says (s.b.y -ℤ s.a.y))) ∙ flat_by (sign (s.b.y -ℤ s.a.y)) (sign (s.b.x -ℤ s.a.x)) (rising_edge s)

-- one number is at most another where the difference isn't positive
le_by : (x y : ℤ) (s : Sign) → Says s (x -ℤ y) → le_z x y ≡ not (is_plus s)
le_by x y Plus h = grind (arith, ints)
le_by x y Null h = grind (arith, ints)
le_by x y Minus h = grind (arith, ints)

span_is : (p : Loc) (t : Seg) → (le_z t.a.y p.y && lt_z p.y t.b.y) ≡ span p t
unfolding span
span_is p t = ap₂ (λ (a b : Bool). a && b) (le_by t.a.y p.y (sign (t.a.y -ℤ p.y)) (says (t.a.y -ℤ p.y))) (lt_by p.y t.b.y (sign (t.b.y -ℤ p.y)) (says (t.b.y -ℤ p.y)))

-- the same by the two comparisons, one after the other
pub span_above : (p : Loc) (t : Seg) → le_z t.a.y p.y ≡ true → lt_z p.y t.b.y ≡ span p t
span_above p t e = sym (ap (λ (a : Bool). a && lt_z p.y t.b.y) e) ∙ span_is p t

pub span_below : (p : Loc) (t : Seg) → le_z t.a.y p.y ≡ false → le_z t.a.y p.y ≡ span p t
span_below p t e = e ∙ (sym (ap (λ (a : Bool). a && lt_z p.y t.b.y) e) ∙ span_is p t)
