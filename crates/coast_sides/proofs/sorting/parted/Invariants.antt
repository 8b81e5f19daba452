use Rattle.std.proofs.Common.{◌≡◌, filter, not, take}
use Rattle.std.specs.BTreeSet.{contains}
use Rattle.std.specs.List.{list_any}
use Rattle.osm_lattice.specs.Seg.{seg_cmp}
use Rattle.coast_rings.specs.declared.ring.CoastRing.{CoastRing}
use Rattle.coast_sides.specs.Segments.{segments_round}
use Rattle.coast_sides.proofs.sorting.parted.Given as goal

abbrev pub invariant-loop-ring : goal.invariant-loop-ring
invariant-loop-ring l =
    (l.free ≡ filter (λ (ring : CoastRing). not (list_any (contains seg_cmp l.segs) (segments_round ring.path))) (take l.ring-index l.rings))
    × (l.along ≡ filter (λ (ring : CoastRing). list_any (contains seg_cmp l.segs) (segments_round ring.path)) (take l.ring-index l.rings))
