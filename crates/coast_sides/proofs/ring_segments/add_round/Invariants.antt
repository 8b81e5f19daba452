use Rattle.std.proofs.Common.{◌≡◌, ◌++◌, take}
use Rattle.std.specs.List.{filter_map}
use Rattle.osm_lattice.specs.Seg.{segment_between}
use Rattle.coast_sides.specs.Segments.{steps_round}
use Rattle.coast_sides.proofs.ring_segments.add_round.Given as goal

abbrev pub invariant-loop-place : goal.invariant-loop-place
invariant-loop-place l = l.segs.items ≡ l.initial.segs.items ++ filter_map (λ step. segment_between step.0 step.1) (take l.place (steps_round l.path))
