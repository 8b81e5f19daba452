use Rattle.opl_reader.proofs.NumberLemmas.{ReadFew}
use Rattle.opl_reader.proofs.number.leading_digits.Given as goal

abbrev pub invariant-loop-place : goal.invariant-loop-place
invariant-loop-place l = ReadFew l.bytes l.place l.value
