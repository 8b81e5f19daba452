use Rattle.one_output.proofs.one_coast.coasts_are_valid.Goals as goal
use Rattle.one_output.proofs.OneCoast.PiecesRight.{coasts_valid, pieces_valid}

pub returns-clause-whole : goal.returns-clause-whole
returns-clause-whole c = coasts_valid c.nested_polygons_are_valid.ensures.valid

pub returns-clause-pieces : goal.returns-clause-pieces
returns-clause-pieces c =
    pieces_valid c.nested_polygons_are_valid.ensures.valid c.rings_may_be_nested.ensures.nested
    c.nested_cover_as_rings.ensures.sided c.leaves_cover_as_list.ensures.sided
