use Rattle.std.proofs.Common.{◌≡◌, ◌+◌, length}
use Rattle.worked_rows.proofs.feeding.feed_all.Given as goal

-- what was fed and what is left are the whole input
abbrev pub invariant-loop-rest : goal.invariant-loop-rest
invariant-loop-rest l = l.lines.fed + length l.rest ≡ length l.input

abbrev pub decreases-loop-rest : goal.decreases-loop-rest
decreases-loop-rest l = length l.rest
