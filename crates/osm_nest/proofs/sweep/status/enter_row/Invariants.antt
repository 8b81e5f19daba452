-- Those from the first place up to the next were put one after the other.
use Rattle.std.proofs.Common.{ℕ, filter, length, take, ◌+◌, ◌-◌, ◌≡◌, ◌≤◌, ◌⊎◌}
use Rattle.lists.specs.Member.{In}
use Rattle.osm_nest.specs.declared.sweep.ring_edge.RingEdge.{RingEdge}
use Rattle.osm_nest.specs.SweptEdges.{PutRow, is_within}
use Rattle.osm_nest.proofs.sweep.status.enter_row.Given as goal

abbrev pub invariant-loop-status : goal.invariant-loop-status
invariant-loop-status l =
    (l.next ≤ length l.edges) × (n : ℕ) × (l.next ≡ l.from + n) × PutRow l.at l.edges l.from n (filter (is_within l.at) l.initial.status) (filter (is_within l.at) l.status)
    × ((e : RingEdge) → In e l.status → (In e l.initial.status) ⊎ In e (take l.next l.edges))

abbrev pub decreases-loop-status : goal.decreases-loop-status
decreases-loop-status l = length l.edges - l.next
