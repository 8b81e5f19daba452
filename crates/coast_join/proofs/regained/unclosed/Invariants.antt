use Rattle.std.proofs.Common.{filter, map, not, take}
use Rattle.std.specs.List.{AllZip}
use Rattle.coast_join.specs.Joined.{IsUnclosed, chains_at, is_closed_orbit}
use Rattle.coast_join.proofs.regained.unclosed.Given as goal

abbrev pub invariant-loop-orbit : goal.invariant-loop-orbit
invariant-loop-orbit l = AllZip (λ o c. IsUnclosed (chains_at l.chains o) c) (filter (λ o. not (is_closed_orbit l.next o)) (take l.orbit-index (map (λ o. o.items) l.orbits))) l.unclosed
