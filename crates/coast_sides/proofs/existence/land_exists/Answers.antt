use Rattle.coast_sides.proofs.AllExist.{counted_segments, rings_have_land}
use Rattle.coast_sides.proofs.existence.land_exists.Goals as goal

pub returns : goal.returns
returns c =
    rings_have_land counted_segments c.orders_are_exact.ensures.segments c.directing_is_sided.ensures.whole c.directions_exist.ensures c.repeats_exist.ensures
    c.closed_lines_are_even.ensures
