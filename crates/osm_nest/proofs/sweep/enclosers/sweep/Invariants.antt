-- The status has the edges put so far that go on, and the direct enclosers known so far are right.
use Rattle.std.proofs.Common.{length, ◌-◌, ◌≤◌}
use Rattle.osm_nest.specs.RingLists.{AreRings}
use Rattle.osm_nest.specs.SweptEdges.{AreSlopingEdges, KnownEnclosersAreRight, StartsRise}
use Rattle.osm_nest.proofs.SweptHeights.{IsUnderWay}
use Rattle.osm_nest.proofs.sweep.enclosers.sweep.Given as goal

abbrev pub invariant-loop-next : goal.invariant-loop-next
invariant-loop-next l =
    (l.next ≤ length l.edges) × (l.settled ≤ length l.inner) × KnownEnclosersAreRight l.rings l.known.items ×
    ((are : AreRings l.rings) (of : AreSlopingEdges l.rings l.edges) (rise : StartsRise l.edges) → IsUnderWay l.rings are l.edges of rise l.next l.status)

abbrev pub decreases-loop-next : goal.decreases-loop-next
decreases-loop-next l = length l.edges - l.next
