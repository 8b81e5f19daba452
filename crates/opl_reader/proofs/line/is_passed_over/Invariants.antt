use Rattle.std.proofs.Common.{◌≡◌, drop}
use Rattle.opl_reader.specs.LineReading.{fields_from}
use Rattle.opl_reader.proofs.line.is_passed_over.Given as goal

-- no field begins so far
abbrev pub invariant-loop-byte : goal.invariant-loop-byte
invariant-loop-byte l = fields_from l.byte-index (drop l.byte-index l.text) ≡ fields_from 0 l.text
