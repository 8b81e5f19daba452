use Rattle.std.proofs.Common.{◌≡◌, take}
use Rattle.std.specs.BTreeSet.{contains}
use Rattle.std.specs.List.{list_any}
use Rattle.osm_lattice.specs.declared.seg.Seg.{Seg}
use Rattle.osm_lattice.specs.Seg.{seg_cmp}
use Rattle.coast_sides.specs.Sorting.{is_in_pair}
use Rattle.coast_sides.proofs.conflicting.segments_of.Given as goal

abbrev pub invariant-loop-pair : goal.invariant-loop-pair
invariant-loop-pair l = (s : Seg) → contains seg_cmp l.segs s ≡ list_any (is_in_pair s) (take l.pair-index l.pairs)
