use Rattle.std.proofs.Common.{◌≤◌, ◌+◌, length}
use Rattle.worked_rows.proofs.feeding.put_fed.Given as goal

-- what was fed and what is left are at most the whole text
abbrev pub invariant-loop-rest : goal.invariant-loop-rest
invariant-loop-rest l = l.lines.fed + length l.rest ≤ length l.call.text.now

abbrev pub decreases-loop-rest : goal.decreases-loop-rest
decreases-loop-rest l = length l.rest
