use Rattle.coast_sides.proofs.Covering.{land_water_cover}
use Rattle.coast_sides.proofs.water_laws.land_and_water_cover.Goals as goal

pub returns : goal.returns
returns c = land_water_cover c.orders_are_exact.ensures.segments c.water_covers_the_rest.ensures
