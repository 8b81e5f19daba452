-- The law that chains exist, from its lemma.
use Rattle.coast_join.proofs.SomeChains.{some_list}
use Rattle.coast_join.proofs.laws.chains_exist.Goals as goal

pub returns : goal.returns
returns c = some_list c.orders_are_exact.ensures.locations c.each_stands_once.ensures.below c.orbits_are_determined.ensures.exist
