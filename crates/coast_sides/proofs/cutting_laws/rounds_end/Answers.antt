use Rattle.coast_sides.proofs.ShorterLines.{all_end}
use Rattle.coast_sides.proofs.cutting_laws.rounds_end.Goals as goal

pub returns : goal.returns
returns c = all_end c.conflicts_are_symmetric.ensures
