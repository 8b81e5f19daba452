use Rattle.coast_filter.proofs.SameCoast.{input_stays}
use Rattle.coast_filter.proofs.laws.coast_input_stays.Goals as goal

pub returns : goal.returns
returns c = input_stays
