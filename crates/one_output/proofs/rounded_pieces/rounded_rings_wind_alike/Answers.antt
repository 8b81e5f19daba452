use Rattle.one_output.proofs.rounded_pieces.rounded_rings_wind_alike.Goals as goal
use Rattle.one_output.proofs.RoundedPieces.RingLaws.{rounded-off, rounded-winds, vanished-none}

pub returns-clause-off : goal.returns-clause-off
returns-clause-off c = rounded-off

pub returns-clause-winding : goal.returns-clause-winding
returns-clause-winding c = rounded-winds

pub returns-clause-vanished : goal.returns-clause-vanished
returns-clause-vanished c = vanished-none
