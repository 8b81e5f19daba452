use Rattle.one_output.proofs.rounded_pieces.printed_points_are_near.Goals as goal
use Rattle.one_output.proofs.RoundedPieces.PrintedPolygons.{printed-near}
use Rattle.one_output.proofs.RoundedPieces.RingLaws.{line-is}

pub returns-clause-line : goal.returns-clause-line
returns-clause-line c = line-is

pub returns-clause-near : goal.returns-clause-near
returns-clause-near c = printed-near
