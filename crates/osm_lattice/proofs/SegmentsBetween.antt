-- The segment between two locations, by which of them comes first.
use Rattle.std.proofs.Common.{◌≡◌, false, None, Some, refl, ap, ◌∙◌}
use Rattle.std.specs.declared.cmp.Ordering.{Ordering}
use Rattle.std.specs.declared.cmp.Ordering.TheVariants.{Less, Equal, Greater}
use Rattle.std.specs.Ordering.{is_lt, ordering_reverse}
use Rattle.osm_lattice.specs.declared.loc.Loc.{Loc}
use Rattle.osm_lattice.specs.Loc.{loc_cmp, IsBefore}
use Rattle.osm_lattice.specs.Seg.{segment_by, segment_between}
use Rattle.osm_lattice.proofs.LocationOrder.{loc_total}
use Rattle.osm_lattice.proofs.Orders.{seg_from_ends}

forth_by : (p q : Loc) (rising : IsBefore p q) (forth back : Ordering) (before : loc_cmp p q ≡ forth) (after : loc_cmp q p ≡ back) → Some (record { a = p; b = q; rising = rising }) ≡ segment_by p q forth back before after
forth_by p q rising Less back before after = ap Some (seg_from_ends (record { a = p; b = q; rising = rising }) (record { a = p; b = q; rising = before }) refl refl)
forth_by p q rising Equal back before after = cc
forth_by p q rising Greater back before after = cc

pub forth : (p q : Loc) (rising : IsBefore p q) → Some (record { a = p; b = q; rising = rising }) ≡ segment_between p q
unfolding segment_between
forth p q rising = forth_by p q rising (loc_cmp p q) (loc_cmp q p) refl refl

turned : (p q : Loc) → loc_cmp p q ≡ Less → loc_cmp q p ≡ Less → ⊥
turned p q h k = let e = loc_total.antisymm p q ∙ ap ordering_reverse k in cc

back_by : (p q : Loc) (rising : IsBefore q p) (forth back : Ordering) (before : loc_cmp p q ≡ forth) (after : loc_cmp q p ≡ back) → Some (record { a = q; b = p; rising = rising }) ≡ segment_by p q forth back before after
back_by p q rising Less back before after = absurd (turned p q before rising)
back_by p q rising Equal Less before after = ap Some (seg_from_ends (record { a = q; b = p; rising = rising }) (record { a = q; b = p; rising = after }) refl refl)
back_by p q rising Greater Less before after = ap Some (seg_from_ends (record { a = q; b = p; rising = rising }) (record { a = q; b = p; rising = after }) refl refl)
back_by p q rising Equal Equal before after = cc
back_by p q rising Equal Greater before after = cc
back_by p q rising Greater Equal before after = cc
back_by p q rising Greater Greater before after = cc

pub back : (p q : Loc) (rising : IsBefore q p) → Some (record { a = q; b = p; rising = rising }) ≡ segment_between p q
unfolding segment_between
back p q rising = back_by p q rising (loc_cmp p q) (loc_cmp q p) refl refl

none_by : (p q : Loc) (forth back : Ordering) (before : loc_cmp p q ≡ forth) (after : loc_cmp q p ≡ back) → is_lt forth ≡ false → is_lt back ≡ false → None ≡ segment_by p q forth back before after
none_by p q Less back before after h k = absurd (cc h)
none_by p q Equal Less before after h k = absurd (cc k)
none_by p q Greater Less before after h k = absurd (cc k)
none_by p q Equal Equal before after h k = refl
none_by p q Equal Greater before after h k = refl
none_by p q Greater Equal before after h k = refl
none_by p q Greater Greater before after h k = refl

pub neither : (p q : Loc) → is_lt (loc_cmp p q) ≡ false → is_lt (loc_cmp q p) ≡ false → None ≡ segment_between p q
unfolding segment_between
neither p q h k = none_by p q (loc_cmp p q) (loc_cmp q p) refl refl h k
