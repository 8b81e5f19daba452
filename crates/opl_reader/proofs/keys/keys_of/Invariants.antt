use Rattle.opl_reader.proofs.KeysRead.{KeysTo}
use Rattle.opl_reader.proofs.keys.keys_of.Given as goal

abbrev pub invariant-loop : goal.invariant-loop
invariant-loop l = KeysTo l.keys l.left l.counter l.text
