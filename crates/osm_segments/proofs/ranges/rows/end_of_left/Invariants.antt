use Rattle.std.proofs.Common.{length, ◌≤◌}
use Rattle.osm_segments.proofs.ranges.rows.end_of_left.Given as goal

abbrev pub invariant-loop-end : goal.invariant-loop-end
invariant-loop-end l = l.end ≤ length l.row

abbrev pub decreases-loop-end : goal.decreases-loop-end
decreases-loop-end l = l.end
