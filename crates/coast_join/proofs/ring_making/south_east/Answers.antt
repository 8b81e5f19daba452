use Rattle.std.proofs.Common.{refl}
use Rattle.coast_join.proofs.ring_making.south_east.Goals as goal

pub returns : goal.returns
returns c = (c.orders_are_exact.ensures.locations _ _).0 refl
