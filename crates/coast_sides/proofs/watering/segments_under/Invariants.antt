use Rattle.std.proofs.Common.{◌≡◌, take}
use Rattle.coast_sides.specs.Water.{segments_under}
use Rattle.coast_sides.proofs.watering.segments_under.Given as goal

abbrev pub invariant-loop-edge : goal.invariant-loop-edge
invariant-loop-edge l = l.segs.items ≡ segments_under (take l.edge-index l.edges)
