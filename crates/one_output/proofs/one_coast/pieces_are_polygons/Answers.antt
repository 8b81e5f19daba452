use Rattle.one_output.proofs.one_coast.pieces_are_polygons.Goals as goal
use Rattle.one_output.proofs.OneCoast.PiecesRight.{pieces_polygons}

pub returns : goal.returns
returns c =
    pieces_polygons c.rings_may_be_nested.ensures.nested c.nested_cover_as_rings.ensures.sided c.nested_have_kinds.ensures.kinds
    c.nested_have_kinds.ensures.around c.nested_cover_as_rings.ensures.cover c.nested_cover_as_rings.ensures.edges c.leaves_cover_as_list.ensures.sided
