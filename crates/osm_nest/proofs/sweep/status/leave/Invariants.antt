-- Those that span the height are as many as before, and none is new.
use Rattle.std.proofs.Common.{filter, length, ◌-◌, ◌≡◌}
use Rattle.lists.specs.Member.{In}
use Rattle.osm_nest.specs.declared.sweep.ring_edge.RingEdge.{RingEdge}
use Rattle.osm_nest.specs.SweptEdges.{is_within}
use Rattle.osm_nest.proofs.sweep.status.leave.Given as goal

abbrev pub invariant-loop-status : goal.invariant-loop-status
invariant-loop-status l = (filter (is_within l.at) l.status ≡ filter (is_within l.at) l.initial.status) × ((e : RingEdge) → In e l.status → In e l.initial.status)

abbrev pub decreases-loop-status : goal.decreases-loop-status
decreases-loop-status l = length l.tops - l.next
