use Rattle.std.proofs.Common.{◌≤◌, ◌+◌, ◌-◌, length, take}
use Rattle.coast_sides.specs.Junctions.{HasPassed, ends_passed}
use Rattle.coast_sides.proofs.junctions.busy_nodes.Given as goal

abbrev pub invariant-loop-next : goal.invariant-loop-next
invariant-loop-next l = (l.lower ≤ length l.segs) × (l.upper ≤ length l.ends) × HasPassed (ends_passed (take l.lower l.segs) (take l.upper l.ends)) l.passing

abbrev pub decreases-loop-next : goal.decreases-loop-next
decreases-loop-next l = (length l.segs - l.lower) + (length l.ends - l.upper)
