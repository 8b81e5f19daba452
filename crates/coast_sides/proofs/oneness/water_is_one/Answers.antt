use Rattle.coast_sides.proofs.AllOne.{water_one}
use Rattle.coast_sides.proofs.oneness.water_is_one.Goals as goal

pub returns : goal.returns
returns c = water_one c.orders_are_exact.ensures.segments c.directions_are_one.ensures c.orders_are_exact.ensures.locations
