use Rattle.std.proofs.Common.{length}
use Rattle.opl_reader.proofs.StringLemmas.{TestedTo}
use Rattle.opl_reader.proofs.escape.is_string.Given as goal

abbrev pub invariant-loop-plain : goal.invariant-loop-plain
invariant-loop-plain l = TestedTo l.rest l.text

abbrev pub decreases-loop-plain : goal.decreases-loop-plain
decreases-loop-plain l = length l.rest
