use Rattle.std.proofs.Common.{Ok, take}
use Rattle.job_export.specs.ReportSteps.{WroteLines}
use Rattle.job_export.proofs.ReportLines.{AreNoteLines}
use Rattle.job_export.proofs.report.write_notes.Given as goal

abbrev pub invariant-loop-note : goal.invariant-loop-note
invariant-loop-note g l = WroteLines (AreNoteLines l.of (take l.note-index l.notes)) (g.H.Host.seen l.fn.host) (g.H.Host.seen l.host) (Ok tt)
