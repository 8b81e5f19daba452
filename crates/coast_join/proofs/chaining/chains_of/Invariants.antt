use Rattle.std.proofs.Common.{map, take}
use Rattle.std.specs.List.{AllZip}
use Rattle.coast_join.specs.Chains.{IsChain}
use Rattle.coast_join.specs.ChainSteps.{ways_at}
use Rattle.coast_join.proofs.chaining.chains_of.Given as goal

abbrev pub invariant-loop-orbit : goal.invariant-loop-orbit
invariant-loop-orbit l = AllZip (IsChain (ways_at l.ways l.order) l.next) (take l.orbit-index (map (λ o. o.items) l.orbits)) l.chains.items
