use Rattle.coast_sides.proofs.CutLaws.{unopposed_stay}
use Rattle.coast_sides.proofs.cutting_laws.unopposed_rings_stay.Goals as goal

pub returns : goal.returns
returns c = unopposed_stay
