use Rattle.coast_sides.proofs.ClearSides.{clear_east, clear_north, clear_south, clear_west}
use Rattle.coast_sides.proofs.water_laws.sides_are_clear.Goals as goal

pub returns-clause-south : goal.returns-clause-south
returns-clause-south c = clear_south c.orders_are_exact.ensures.points c.orders_are_exact.ensures.locations

pub returns-clause-east : goal.returns-clause-east
returns-clause-east c = clear_east c.orders_are_exact.ensures.points c.orders_are_exact.ensures.locations

pub returns-clause-north : goal.returns-clause-north
returns-clause-north c = clear_north c.orders_are_exact.ensures.points c.orders_are_exact.ensures.locations

pub returns-clause-west : goal.returns-clause-west
returns-clause-west c = clear_west c.orders_are_exact.ensures.points c.orders_are_exact.ensures.locations
