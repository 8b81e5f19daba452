use Rattle.one_output.proofs.one_coast.coastline_is_one.Goals as goal
use Rattle.one_output.proofs.OneCoast.CoastOne.{coastline_one}

pub returns : goal.returns
returns c =
    coastline_one c.coast_is_one.ensures c.lines_have_kinds.ensures c.coast_line_is_one.ensures c.polygons_are_one.ensures
    c.water_is_one.ensures c.rings_may_be_nested.ensures.nested c.nested_cover_as_rings.ensures.sided c.halves_are_determined.ensures.tree c.leaves_cover_as_list.ensures.sided
