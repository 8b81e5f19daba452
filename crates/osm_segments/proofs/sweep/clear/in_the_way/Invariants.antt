use Rattle.std.proofs.Common.{length, ◌*◌, ◌+◌, ◌-◌, ◌≤◌}
use Rattle.osm_segments.proofs.Sweeps.{IsSwept}
use Rattle.osm_segments.proofs.sweep.clear.in_the_way.Given as goal

abbrev pub invariant-loop-left : goal.invariant-loop-left
invariant-loop-left l = (l.next ≤ length l.segs) × IsSwept l.segs l.ends l.aside.items l.next l.left l.status

-- each step ends one, makes one begin or takes one out of the status
abbrev pub decreases-loop-left : goal.decreases-loop-left
decreases-loop-left l = 2 * (length l.segs - l.next) + (length l.ends - l.left) + length l.status
