use Rattle.coast_join.proofs.SomeJoined.{some_joined}
use Rattle.coast_join.proofs.ring_laws.joined_exists.Goals as goal

pub returns : goal.returns
returns c = some_joined c.orders_are_exact.ensures.locations c.each_stands_once.ensures.below c.orbits_are_determined.ensures.exist c.names_rise.ensures c.unclosed_ends_differ.ensures c.closed_ends_differ.ensures
