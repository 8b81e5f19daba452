-- The law of the names of closed chains, from its lemma.
use Rattle.coast_join.proofs.ChainWays.{least_names}
use Rattle.coast_join.proofs.laws.closed_names_are_least.Goals as goal

pub returns : goal.returns
returns c = least_names c.each_stands_once.ensures.below
