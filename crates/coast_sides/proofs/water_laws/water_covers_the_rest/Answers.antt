use Rattle.coast_sides.proofs.WaterLaws.{water_covers}
use Rattle.coast_sides.proofs.water_laws.water_covers_the_rest.Goals as goal

pub returns : goal.returns
returns c = water_covers c.orders_are_exact.ensures.segments
