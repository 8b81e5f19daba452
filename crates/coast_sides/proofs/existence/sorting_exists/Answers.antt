use Rattle.coast_sides.proofs.AllExist.{counted_segments, sorted_exists}
use Rattle.coast_sides.proofs.existence.sorting_exists.Goals as goal

pub returns : goal.returns
returns c = sorted_exists counted_segments c.orders_are_exact.ensures.locations c.conflicts_are_symmetric.ensures c.rounds_end.ensures
