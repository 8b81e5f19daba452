-- What each answer on a conflict says of the two segments.
use Rattle.std.proofs.Common.{◌≡◌, Bool, true, false, if◌then◌else◌, Some, None, refl, ap, ◌∙◌}
use Rattle.std.specs.declared.cmp.Ordering.{Ordering}
use Rattle.std.specs.declared.cmp.Ordering.TheVariants.{Less, Equal, Greater}
use Rattle.std.specs.Ordering.{is_eq, ordering_reverse}
use Rattle.plane.proofs.PlaneKit.{overlaps_reversed, crosses_reversed}
use Rattle.osm_lattice.specs.declared.seg.Seg.{Seg}
use Rattle.osm_lattice.specs.declared.conflicts.Kind.TheVariants.{Crossing, Overlap}
use Rattle.osm_lattice.specs.Seg.{seg_cmp, edge_of}
use Rattle.osm_lattice.specs.Conflict.{are_overlapping, are_crossing, conflict_of}
use Rattle.osm_lattice.proofs.LocationOrder.{seg_total}

pub none_where_equal : (s t : Seg) → is_eq (seg_cmp s t) ≡ true → None ≡ conflict_of s t
none_where_equal s t e = rw e refl

-- ---- a conflict does not depend on which segment is named first
overlapping-comm : (s t : Seg) → are_overlapping s t ≡ are_overlapping t s
unfolding are_overlapping
overlapping-comm s t = overlaps_reversed (edge_of t) (edge_of s)

crossing-comm : (s t : Seg) → are_crossing s t ≡ are_crossing t s
unfolding are_crossing
crossing-comm s t = crosses_reversed (edge_of t) (edge_of s)

equal_turned : (o : Ordering) → is_eq (ordering_reverse o) ≡ is_eq o
equal_turned Less = refl
equal_turned Equal = refl
equal_turned Greater = refl

pub conflict_of-comm : (s t : Seg) → conflict_of s t ≡ conflict_of t s
conflict_of-comm s t =
    let same : is_eq (seg_cmp s t) ≡ is_eq (seg_cmp t s) = ap is_eq (seg_total.antisymm s t) ∙ equal_turned (seg_cmp t s) in
    rw (same, overlapping-comm s t, crossing-comm s t) refl

-- ---- the cases
decoded : (e o x : Bool) → (if e then None else (if o then Some Overlap else (if x then Some Crossing else None))) ≡ Some Crossing → (o ≡ false) × (x ≡ true)
decoded true o x h = cc
decoded false true x h = cc
decoded false false true h = (refl, refl)
decoded false false false h = cc

pub where_crossing : (s t : Seg) → conflict_of s t ≡ Some Crossing → are_crossing s t ≡ true
where_crossing s t h = (decoded (is_eq (seg_cmp s t)) (are_overlapping s t) (are_crossing s t) h).1

decoded_overlap : (e o x : Bool) → (if e then None else (if o then Some Overlap else (if x then Some Crossing else None))) ≡ Some Overlap → o ≡ true
decoded_overlap true o x h = cc
decoded_overlap false true x h = refl
decoded_overlap false false true h = cc
decoded_overlap false false false h = cc

pub where_overlapping : (s t : Seg) → conflict_of s t ≡ Some Overlap → are_overlapping s t ≡ true
where_overlapping s t h = decoded_overlap (is_eq (seg_cmp s t)) (are_overlapping s t) (are_crossing s t) h
