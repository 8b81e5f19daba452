use Rattle.std.proofs.Common.{length, ◌-◌, ◌≤◌}
use Rattle.osm_segments.proofs.ranges.rows.begin_of_right.Given as goal

abbrev pub invariant-loop-begin : goal.invariant-loop-begin
invariant-loop-begin l = l.begin ≤ length l.row

abbrev pub decreases-loop-begin : goal.decreases-loop-begin
decreases-loop-begin l = length l.row - l.begin
