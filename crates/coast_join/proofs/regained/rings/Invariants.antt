use Rattle.std.proofs.Common.{filter, map, take}
use Rattle.std.specs.List.{AllZip}
use Rattle.coast_join.specs.Joined.{IsCoastRing, chains_at, is_closed_orbit}
use Rattle.coast_join.proofs.regained.rings.Given as goal

abbrev pub invariant-loop-orbit : goal.invariant-loop-orbit
invariant-loop-orbit l = AllZip (λ o r. IsCoastRing (chains_at l.chains o) r) (filter (is_closed_orbit l.next) (take l.orbit-index (map (λ o. o.items) l.orbits))) l.rings.items
