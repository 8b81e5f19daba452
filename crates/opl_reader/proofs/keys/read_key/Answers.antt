use Rattle.std.proofs.Common.{◌∙◌, sym}
use Rattle.opl_reader.proofs.KeysRead.{key-read, key-fails}
use Rattle.opl_reader.proofs.keys.read_key.Goals as goal

pub returns-in-Ok : goal.returns-in-Ok
returns-in-Ok c = key-read 0 c.args.written.now c.in-Ok.key (sym c.if-not-is_key.false ∙ c.is_key.ensures) c.in-Ok.ensures

pub returns-in-Err-Fault : goal.returns-in-Err-Fault
returns-in-Err-Fault c = key-fails 0 c.args.written.now c.in-Err-Fault.field-0-0 (sym c.if-not-is_key.false ∙ c.is_key.ensures) (rw c.in-Err-Fault.field-0-is at c.in-Err-Fault.ensures)
