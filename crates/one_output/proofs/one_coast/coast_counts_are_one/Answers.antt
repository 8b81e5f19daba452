use Rattle.one_output.proofs.one_coast.coast_counts_are_one.Goals as goal
use Rattle.one_output.proofs.OneCoast.CoastOne.{counts_one}

pub returns : goal.returns
returns c =
    counts_one c.coast_is_one.ensures c.polygons_are_one.ensures c.water_is_one.ensures c.rings_may_be_nested.ensures.nested
    c.nested_cover_as_rings.ensures.sided c.halves_are_determined.ensures.tree c.leaves_cover_as_list.ensures.sided
