-- The enclosers known so far are right.
use Rattle.std.proofs.Common.{length, ◌-◌, ◌≤◌}
use Rattle.osm_nest.specs.SweptEdges.{KnownEnclosersAreRight}
use Rattle.osm_nest.proofs.sweep.enclosers.settle_row.Given as goal

abbrev pub invariant-loop-known : goal.invariant-loop-known
invariant-loop-known l = (l.next ≤ length l.inner) × KnownEnclosersAreRight l.rings l.known.items

abbrev pub decreases-loop-known : goal.decreases-loop-known
decreases-loop-known l = length l.inner - l.next
