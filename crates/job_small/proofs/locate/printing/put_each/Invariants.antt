use Rattle.std.proofs.Common.{◌≡◌, ◌++◌, take}
use Rattle.std.specs.List.{flat_map}
use Rattle.job_small.specs.Locating.Lines.{hit_text}
use Rattle.job_small.proofs.locate.printing.put_each.Given as goal

abbrev pub invariant-loop-hit : goal.invariant-loop-hit
invariant-loop-hit l = l.line.items ≡ l.fn.line.items ++ flat_map hit_text (take l.hit-index l.hits)
