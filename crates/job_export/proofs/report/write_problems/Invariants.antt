use Rattle.std.proofs.Common.{Ok, take}
use Rattle.job_export.specs.Entry.{AreProblemLines}
use Rattle.job_export.specs.ReportSteps.{WroteLines}
use Rattle.job_export.proofs.report.write_problems.Given as goal

abbrev pub invariant-loop-place : goal.invariant-loop-place
invariant-loop-place g l = WroteLines (AreProblemLines l.of (take l.place l.problems)) (g.H.Host.seen l.fn.host) (g.H.Host.seen l.host) (Ok tt)
