use Rattle.coast_join.proofs.RingStarts.{begin_least}
use Rattle.coast_join.proofs.ring_laws.rings_begin_at_least_names.Goals as goal

pub returns : goal.returns
returns c ways chains are = begin_least ways chains are c.names_rise.ensures c.each_stands_once.ensures.below
