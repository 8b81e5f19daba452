-- The law that each way stands in one chain, from its lemma.
use Rattle.coast_join.proofs.ChainWays.{ways_once}
use Rattle.coast_join.proofs.laws.ways_stand_once.Goals as goal

pub returns : goal.returns
returns c = ways_once c.each_stands_once.ensures.sums
