use Rattle.opl_reader.proofs.KeysRead.{AfterKeys}
use Rattle.opl_reader.proofs.keys.is_keys.Given as goal

abbrev pub invariant-loop : goal.invariant-loop
invariant-loop l = AfterKeys l.left l.counter l.text
