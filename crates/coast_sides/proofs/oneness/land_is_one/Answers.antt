use Rattle.coast_sides.proofs.AllOne.{land_one}
use Rattle.coast_sides.proofs.oneness.land_is_one.Goals as goal

pub returns : goal.returns
returns c = land_one c.orders_are_exact.ensures.segments c.directions_are_one.ensures c.repeats_are_one.ensures
