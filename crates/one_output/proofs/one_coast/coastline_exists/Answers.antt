use Rattle.one_output.proofs.one_coast.coastline_exists.Goals as goal
use Rattle.one_output.proofs.OneCoast.CoastThere.{coastline_there}

pub returns : goal.returns
returns c =
    coastline_there c.coast_exists.ensures c.pieces_exist.ensures.polygons c.pieces_exist.ensures.tiles c.water_exists.ensures
    c.rings_may_be_nested.ensures.nested c.nested_cover_as_rings.ensures.sided c.split_trees_exist.ensures c.leaves_cover_as_list.ensures.sided
    c.lines_have_kinds.ensures c.pieces_exist.ensures.report
