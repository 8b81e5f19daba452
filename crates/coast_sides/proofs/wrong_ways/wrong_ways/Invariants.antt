use Rattle.std.proofs.Common.{◌≡◌, filter, map, take}
use Rattle.coast_rings.specs.declared.ring.CoastRing.{CoastRing}
use Rattle.coast_sides.specs.WrongWays.{runs_against}
use Rattle.coast_sides.proofs.wrong_ways.wrong_ways.Given as goal

abbrev pub invariant-loop-ring : goal.invariant-loop-ring
invariant-loop-ring l = l.names ≡ map (λ (ring : CoastRing). ring.name) (filter (runs_against l.edges) (take l.ring-index l.rings))
