use Rattle.coast_sides.proofs.CutLaws.{rings_stay}
use Rattle.coast_sides.proofs.cutting_laws.clear_rings_stay.Goals as goal

pub returns : goal.returns
returns c = rings_stay
