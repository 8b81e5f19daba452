use Rattle.std.proofs.Common.{◌≡◌, take}
use Rattle.coast_sides.specs.Segments.{all_segments}
use Rattle.coast_sides.proofs.ring_segments.all_segments.Given as goal

abbrev pub invariant-loop-ring : goal.invariant-loop-ring
invariant-loop-ring l = l.segs.items ≡ all_segments (take l.ring-index l.rings)
