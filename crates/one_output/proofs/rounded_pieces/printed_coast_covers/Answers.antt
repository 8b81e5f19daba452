-- The print of a leaf covers what the leaf covers.
use Rattle.one_output.proofs.RoundedPieces.PrintedCover.{prints-cover}
use Rattle.one_output.proofs.rounded_pieces.printed_coast_covers.Goals as goal

pub returns-clause-land : goal.returns-clause-land
returns-clause-land c = λ settings objects whole right tiles are q plus p far.
    prints-cover q plus p right.areas.land_leaves tiles are (c.coast_is_printed_right.ensures.land settings objects whole right tiles are) far

pub returns-clause-water : goal.returns-clause-water
returns-clause-water c = λ settings objects whole right tiles are q plus p far.
    prints-cover q plus p right.areas.water_leaves tiles are (c.coast_is_printed_right.ensures.water settings objects whole right tiles are) far
