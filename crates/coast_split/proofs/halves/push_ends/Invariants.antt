use Rattle.std.proofs.Common.{take, ◌++◌, ◌≡◌}
use Rattle.coast_split.specs.Walk.{ends_on}
use Rattle.coast_split.proofs.halves.push_ends.Given as goal

abbrev pub invariant-loop-e : goal.invariant-loop-e
invariant-loop-e l = l.ends.items ≡ l.fn.ends.items ++ ends_on l.cut (take l.e-index l.edges)
