-- By the polygons that the edges of a leaf make, which are valid and cover what it covers.
use Rattle.one_output.proofs.rounded_pieces.leaves_are_printed_right.Goals as goal
use Rattle.one_output.proofs.RoundedPieces.PrintedTiles.{tiles-right}

pub returns : goal.returns
returns c =
    tiles-right c.rings_may_be_nested.ensures.nested c.nested_cover_as_rings.ensures.cover c.nested_cover_as_rings.ensures.edges c.nested_polygons_are_valid.ensures.at
