use Rattle.std.proofs.Common.{◌≡◌, map, take}
use Rattle.coast_join.specs.Chains.{WayPath}
use Rattle.coast_join.specs.ChainSteps.{ways_at}
use Rattle.coast_rings.specs.Line.{last_location}
use Rattle.coast_join.proofs.chaining.ends.Given as goal

abbrev pub invariant-loop-place : goal.invariant-loop-place
invariant-loop-place l = l.ends.items ≡ map (λ (x : WayPath). last_location x.path) (ways_at l.ways (take l.place-index l.places))
