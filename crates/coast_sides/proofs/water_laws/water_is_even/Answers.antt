use Rattle.coast_sides.proofs.WaterLaws.{water_even}
use Rattle.coast_sides.proofs.water_laws.water_is_even.Goals as goal

pub returns : goal.returns
returns c = water_even c.orders_are_exact.ensures.locations c.orders_are_exact.ensures.segments
