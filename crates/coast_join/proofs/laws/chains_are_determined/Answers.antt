-- The law that chains are determined, from its lemma.
use Rattle.coast_join.proofs.OneChains.{one_list}
use Rattle.coast_join.proofs.laws.chains_are_determined.Goals as goal

pub returns : goal.returns
returns c = one_list c.orbits_are_determined.ensures.one
