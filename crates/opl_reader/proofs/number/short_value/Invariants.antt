use Rattle.opl_reader.proofs.NumberLemmas.{ReadFew}
use Rattle.opl_reader.proofs.number.short_value.Given as goal

abbrev pub invariant-loop-byte : goal.invariant-loop-byte
invariant-loop-byte l = ReadFew l.bytes l.byte-index l.value
