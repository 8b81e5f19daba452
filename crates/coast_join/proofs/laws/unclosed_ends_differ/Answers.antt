-- The law of the ends of unclosed chains, from its lemma.
use Rattle.coast_join.proofs.ChainEnds.{unclosed_ends}
use Rattle.coast_join.proofs.laws.unclosed_ends_differ.Goals as goal

pub returns : goal.returns
returns c = unclosed_ends c.orders_are_exact.ensures.locations c.each_stands_once.ensures.below
