use Rattle.opl_reader.proofs.BadLineLaws.{first_fault_is_reported}
use Rattle.opl_reader.proofs.chunking.first_fault_is_reported.Goals as goal

pub returns : goal.returns
returns c = first_fault_is_reported
