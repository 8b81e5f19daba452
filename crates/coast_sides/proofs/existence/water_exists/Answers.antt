use Rattle.coast_sides.proofs.AllExist.{counted_places, counted_segments, land_has_water}
use Rattle.coast_sides.proofs.existence.water_exists.Goals as goal

pub returns : goal.returns
returns c =
    land_has_water counted_segments c.orders_are_exact.ensures.segments c.directing_is_sided.ensures.whole c.directions_exist.ensures c.orders_are_exact.ensures.locations counted_places
    c.conflicts_are_symmetric.ensures c.lattice_edges_are_whole.ensures.sided c.water_is_clear.ensures c.water_is_even.ensures
