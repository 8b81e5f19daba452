use Rattle.std.proofs.Common.{◌-◌, ◌≤◌}
use Rattle.chunked_list.specs.Blocks.{AreChanged}
use Rattle.chunked_list.proofs.starts.lower_each.Given as goal

abbrev pub invariant-loop-place : goal.invariant-loop-place
invariant-loop-place l = (l.from ≤ l.place) × AreChanged (λ n. n - 1) l.from l.place l.initial.numbers l.numbers
