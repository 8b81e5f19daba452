use Rattle.std.proofs.Common.{◌<◌, ◌≤◌, ◌-◌, length}
use Rattle.osm_rings.proofs.rounds.end_of_key.Given as goal

abbrev pub invariant-loop-end : goal.invariant-loop-end
invariant-loop-end l = (l.from < l.end) × (l.end ≤ length l.departures)

abbrev pub decreases-loop-end : goal.decreases-loop-end
decreases-loop-end l = length l.departures - l.end
