use Rattle.std.proofs.Common.{take}
use Rattle.coast_join.specs.JoinSteps.{AreNextBy}
use Rattle.coast_join.proofs.ring_making.next_chains.Given as goal

abbrev pub invariant-loop-place : goal.invariant-loop-place
invariant-loop-place l = AreNextBy l.links (take l.place l.chains) l.next.items
