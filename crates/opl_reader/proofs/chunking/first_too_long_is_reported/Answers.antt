use Rattle.opl_reader.proofs.BadLineLaws.{first_too_long_is_reported}
use Rattle.opl_reader.proofs.chunking.first_too_long_is_reported.Goals as goal

pub returns : goal.returns
returns c = first_too_long_is_reported
