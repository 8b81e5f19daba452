use Rattle.coast_sides.proofs.ReachedLocations.{IsCarried}
use Rattle.coast_sides.proofs.shortcuts.carried.Given as goal

abbrev pub invariant-loop-count : goal.invariant-loop-count
invariant-loop-count l = IsCarried l.reach l.count-index l.left
