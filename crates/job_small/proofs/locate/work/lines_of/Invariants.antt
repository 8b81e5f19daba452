use Rattle.std.proofs.Common.{◌≡◌, take}
use Rattle.job_small.specs.Locating.Lines.{point_lines}
use Rattle.job_small.proofs.locate.work.lines_of.Given as goal

abbrev pub invariant-loop-entry : goal.invariant-loop-entry
invariant-loop-entry l = l.lines.items ≡ point_lines (take l.entry-index l.found)
