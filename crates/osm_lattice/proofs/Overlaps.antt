-- Where two segments overlap, the greater of their lesser ends comes before the lesser of their greater ends.
use Rattle.std.proofs.Common.{◌≡◌, Bool, true, false, cond, ◌&&◌, Some, ◌∙◌}
use Rattle.std.specs.declared.cmp.Ordering.TheVariants.{Less}
use Rattle.std.specs.Ordering.{is_lt, ord_max, ord_min}
use Rattle.plane.specs.Conflict.{is_along}
use Rattle.plane.specs.Order.{order}
use Rattle.plane.specs.Sign.{is_plus}
use Rattle.std.proofs.lemmas.Bool.{and_parts}
use Rattle.osm_lattice.specs.declared.loc.Loc.{Loc}
use Rattle.osm_lattice.specs.declared.seg.Seg.{Seg}
use Rattle.osm_lattice.specs.declared.conflicts.Kind.TheVariants.{Overlap}
use Rattle.osm_lattice.specs.Loc.{loc_cmp, vector_of}
use Rattle.osm_lattice.specs.Seg.{edge_of}
use Rattle.osm_lattice.specs.Conflict.{are_overlapping, conflict_of}
use Rattle.osm_lattice.specs.ConflictTests.{before}
use Rattle.osm_lattice.proofs.ConflictCases.{where_overlapping}
use Rattle.osm_lattice.proofs.LocationOrder.{is_lt_before}
use Rattle.lists.proofs.ListsKit.{less_from}

pub before_less : (p q : Loc) → is_plus (order (vector_of p) (vector_of q)) ≡ true → loc_cmp p q ≡ Less
unfolding before
before_less p q h = less_from (loc_cmp p q) (is_lt_before p q ∙ h)

one_of : {X : Type 0} (P : X → Type 0) (b : Bool) (x y : X) → P x → P y → P (cond b x y)
one_of P true x y p q = p
one_of P false x y p q = q

-- the greater of a and b is before the lesser of c and d where each is before each
between : (a b c d : Loc) → loc_cmp a c ≡ Less → loc_cmp a d ≡ Less → loc_cmp b c ≡ Less → loc_cmp b d ≡ Less → loc_cmp (ord_max loc_cmp a b) (ord_min loc_cmp c d) ≡ Less
between a b c d ac ad bc bd =
    let low = λ (p : Loc) (pc : loc_cmp p c ≡ Less) (pd : loc_cmp p d ≡ Less). one_of (λ q. loc_cmp p q ≡ Less) (is_lt (loc_cmp d c)) d c pd pc in
    one_of (λ p. loc_cmp p (ord_min loc_cmp c d) ≡ Less) (is_lt (loc_cmp b a)) a b (low a ac ad) (low b bc bd)

-- each begins before the other ends
pub begin_in_time : (s t : Seg) → conflict_of s t ≡ Some Overlap → (loc_cmp s.a t.b ≡ Less) × (loc_cmp t.a s.b ≡ Less)
unfolding are_overlapping
begin_in_time s t h =
    let parts = and_parts (is_along (edge_of s) (edge_of t) && is_along (edge_of t) (edge_of s)) _ (where_overlapping s t h) in
    let ends = and_parts (is_plus (order (vector_of s.a) (vector_of t.b))) (is_plus (order (vector_of t.a) (vector_of s.b))) parts.1 in
    (before_less s.a t.b ends.0, before_less t.a s.b ends.1)

pub shared_rising : (s t : Seg) → conflict_of s t ≡ Some Overlap → loc_cmp (ord_max loc_cmp s.a t.a) (ord_min loc_cmp s.b t.b) ≡ Less
shared_rising s t h =
    let begin = begin_in_time s t h in
    between s.a t.a s.b t.b s.rising begin.0 begin.1 t.rising
