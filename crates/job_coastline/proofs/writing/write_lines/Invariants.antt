use Rattle.std.proofs.Common.{take, Ok}
use Rattle.job_coastline.specs.WriteSteps.{WroteReport}
use Rattle.job_coastline.proofs.writing.write_lines.Given as goal

abbrev pub invariant-loop-line : goal.invariant-loop-line
invariant-loop-line g l = WroteReport {T = Unit {0}} (take l.line-index l.lines) (g.H.Host.seen l.fn.host) (g.H.Host.seen l.host) (Ok tt)
