use Rattle.std.proofs.Common.{◌≤◌, ◌-◌, length}
use Rattle.std.specs.List.Sorted.{IsPermutation}
use Rattle.osm_rings.proofs.rounds.sort_rounds.Given as goal

abbrev pub invariant-loop-from : goal.invariant-loop-from
invariant-loop-from l = (l.from ≤ length l.departures) × IsPermutation l.fn.departures l.departures

abbrev pub decreases-loop-from : goal.decreases-loop-from
decreases-loop-from l = length l.departures - l.from
