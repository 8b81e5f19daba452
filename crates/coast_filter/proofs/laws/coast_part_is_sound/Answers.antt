use Rattle.coast_filter.proofs.Part.{part_apart, part_writable}
use Rattle.coast_filter.proofs.laws.coast_part_is_sound.Goals as goal

pub returns-clause-apart : goal.returns-clause-apart
returns-clause-apart c = part_apart

pub returns-clause-writable : goal.returns-clause-writable
returns-clause-writable c = part_writable
