use Rattle.std.proofs.Common.{length, ◌-◌, ◌≤◌}
use Rattle.chunked_list.proofs.searching.point_in.Given as goal

abbrev pub invariant-loop-low : goal.invariant-loop-low
invariant-loop-low g l = (l.low ≤ l.high) × (l.high ≤ length l.items)

abbrev pub decreases-loop-low : goal.decreases-loop-low
decreases-loop-low g l = l.high - l.low
