use Rattle.std.proofs.Common.{◌≡◌, false, take}
use Rattle.std.specs.List.{list_any}
use Rattle.coast_sides.specs.Segments.{steps_round}
use Rattle.std.specs.BTreeSet.{contains}
use Rattle.osm_lattice.specs.Seg.{seg_cmp}
use Rattle.coast_sides.proofs.RoundSteps.{passes_by}
use Rattle.coast_sides.proofs.conflicting.runs_along.Given as goal

abbrev pub invariant-loop-place : goal.invariant-loop-place
invariant-loop-place l = list_any (passes_by (contains seg_cmp l.segs)) (take l.place (steps_round l.path)) ≡ false
