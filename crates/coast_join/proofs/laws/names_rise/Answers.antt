-- The law of the names of chains, from its lemma.
use Rattle.coast_join.proofs.ChainNames.{rising_names}
use Rattle.coast_join.proofs.laws.names_rise.Goals as goal

pub returns : goal.returns
returns c = rising_names c.each_stands_once.ensures.below
