use Rattle.coast_filter.proofs.Part.{part_stays}
use Rattle.coast_filter.proofs.laws.coast_part_stays.Goals as goal

pub returns : goal.returns
returns c = part_stays
