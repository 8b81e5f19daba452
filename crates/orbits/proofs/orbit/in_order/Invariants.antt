-- The orbits that begin below the place are found.
use Rattle.std.proofs.Common.{map}
use Rattle.orbits.proofs.Finding.{AreFound}
use Rattle.orbits.proofs.orbit.in_order.Given as goal

abbrev pub invariant-loop-place : goal.invariant-loop-place
invariant-loop-place l = AreFound l.next l.starts l.chained l.place l.seen.items (map (λ o. o.items) l.orbits.items)
