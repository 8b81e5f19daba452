use Rattle.osm_geom.proofs.Floors.{ceiling-from, ceiling-is, floor-from, floor-is}
use Rattle.osm_geom.proofs.laws.floors_are_next.Goals as goal

pub returns-clause-floor : goal.returns-clause-floor
returns-clause-floor c = λ f h. (floor-is f h, λ n g. floor-from n f h g)

pub returns-clause-ceiling : goal.returns-clause-ceiling
returns-clause-ceiling c = λ f h. (ceiling-is f h, λ n g. ceiling-from n f h g)
