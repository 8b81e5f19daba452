use Rattle.coast_join.proofs.SomeWays.{ways_there}
use Rattle.coast_join.proofs.input_laws.coast_ways_exist.Goals as goal

pub returns : goal.returns
returns c = ways_there c.orders_are_exact.ensures.locations
