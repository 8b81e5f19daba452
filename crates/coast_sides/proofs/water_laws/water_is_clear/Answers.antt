use Rattle.coast_sides.proofs.ClearWater.{water_clear}
use Rattle.coast_sides.proofs.water_laws.water_is_clear.Goals as goal

pub returns : goal.returns
returns c = water_clear c.orders_are_exact.ensures.points c.orders_are_exact.ensures.locations c.orders_are_exact.ensures.segments c.conflicts_are_symmetric.ensures
