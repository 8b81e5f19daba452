use Rattle.coast_sides.proofs.AllOne.{sorted_one}
use Rattle.coast_sides.proofs.oneness.sorting_is_one.Goals as goal

pub returns : goal.returns
returns c = sorted_one c.orders_are_exact.ensures.segments
