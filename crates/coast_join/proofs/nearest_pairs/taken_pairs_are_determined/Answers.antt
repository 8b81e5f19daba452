use Rattle.coast_join.proofs.NameOrder.{one_by_names}
use Rattle.coast_join.proofs.nearest_pairs.taken_pairs_are_determined.Goals as goal

pub returns : goal.returns
returns c = one_by_names
