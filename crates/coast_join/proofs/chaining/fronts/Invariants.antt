use Rattle.std.proofs.Common.{◌≡◌, take}
use Rattle.std.specs.List.{flat_map}
use Rattle.coast_join.specs.Chains.{WayPath}
use Rattle.coast_join.specs.ChainSteps.{ways_at}
use Rattle.coast_rings.specs.Line.{front_of}
use Rattle.coast_join.proofs.chaining.fronts.Given as goal

abbrev pub invariant-loop-place : goal.invariant-loop-place
invariant-loop-place l = l.path ≡ flat_map (λ (x : WayPath). front_of x.path) (ways_at l.ways (take l.place-index l.places))
