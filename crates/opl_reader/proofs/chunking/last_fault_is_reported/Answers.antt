use Rattle.opl_reader.proofs.BadLineLaws.{last_fault_is_reported}
use Rattle.opl_reader.proofs.chunking.last_fault_is_reported.Goals as goal

pub returns : goal.returns
returns c = last_fault_is_reported
