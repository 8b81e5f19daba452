use Rattle.std.proofs.Common.{length, ◌-◌, ◌≤◌}
use Rattle.osm_sides.specs.Sweep.{AreDirectedTo, IsSweptFrom}
use Rattle.osm_sides.proofs.directions.direct_each.Given as goal

abbrev pub invariant-loop-done : goal.invariant-loop-done
invariant-loop-done l = (l.done ≤ length l.segs) × IsSweptFrom l.segs l.ends.items l.done l.next l.status × AreDirectedTo l.segs l.done l.edges.items

abbrev pub decreases-loop-done : goal.decreases-loop-done
decreases-loop-done l = length l.segs - l.done
