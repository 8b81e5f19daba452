use Rattle.std.proofs.Common.{◌≡◌, map, take}
use Rattle.coast_join.specs.Chains.{WayPath}
use Rattle.coast_join.specs.ChainSteps.{ways_at}
use Rattle.coast_join.proofs.chaining.ids_at.Given as goal

abbrev pub invariant-loop-place : goal.invariant-loop-place
invariant-loop-place l = l.ids ≡ map (λ (x : WayPath). x.id) (ways_at l.ways (take l.place-index l.places))
