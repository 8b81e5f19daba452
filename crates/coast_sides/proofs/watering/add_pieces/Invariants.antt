use Rattle.std.proofs.Common.{◌≡◌, ◌++◌, drop, take}
use Rattle.std.specs.List.{filter_map, zip}
use Rattle.osm_lattice.specs.Seg.{segment_between}
use Rattle.coast_sides.proofs.watering.add_pieces.Given as goal

abbrev pub invariant-loop-place : goal.invariant-loop-place
invariant-loop-place l = l.segs.items ≡ l.initial.segs.items ++ filter_map (λ step. segment_between step.0 step.1) (take l.place (zip l.nodes (drop 1 l.nodes)))
