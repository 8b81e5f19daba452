use Rattle.std.proofs.Common.{◌≡◌, map, take}
use Rattle.coast_join.specs.Chains.{WayPath}
use Rattle.coast_join.specs.ChainSteps.{ways_at}
use Rattle.coast_rings.specs.Line.{first_location}
use Rattle.coast_join.proofs.chaining.starts.Given as goal

abbrev pub invariant-loop-place : goal.invariant-loop-place
invariant-loop-place l = l.starts.items ≡ map (λ (x : WayPath). first_location x.path) (ways_at l.ways (take l.place-index l.places))
