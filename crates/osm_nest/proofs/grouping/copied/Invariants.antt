-- Copies of the rings passed.
use Rattle.std.proofs.Common.{take, ◌≡◌}
use Rattle.osm_nest.proofs.grouping.copied.Given as goal

abbrev pub invariant-loop-ring : goal.invariant-loop-ring
invariant-loop-ring l = l.copies ≡ take l.ring-index l.rings
