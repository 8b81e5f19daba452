use Rattle.std.proofs.Common.{Some, [], refl}
use Rattle.std.specs.List.{flat_map}
use Rattle.osm_text.specs.Report.{note_line}
use Rattle.job_export.specs.Entry.{AreProblemLines}
use Rattle.job_export.specs.Reports.{AreReportLines}
use Rattle.job_export.proofs.ReportLines.{AreNoteLines, both_lines, halted_before, text_behind}
use Rattle.job_export.proofs.report.write_both.Goals as goal

pub returns-in-Ok : goal.returns-in-Ok
returns-in-Ok g c =
    text_behind [] (AreProblemLines c.args.of c.args.problems.now) (AreNoteLines c.args.of c.args.notes.now) (AreReportLines c.args.of (Some c.args.problems.now) c.args.notes.now)
    (g.H.Host.seen c.args.host.now) (g.H.Host.seen c.write_problems.new.host) (g.H.Host.seen c.write_notes.new.host) tt c.write_notes.result c.in-Ok.ensures c.write_notes.ensures (both_lines c.args.of c.args.problems.now c.args.notes.now)

pub returns-in-Err : goal.returns-in-Err
returns-in-Err g c =
    halted_before [] (AreProblemLines c.args.of c.args.problems.now) (AreNoteLines c.args.of c.args.notes.now) (AreReportLines c.args.of (Some c.args.problems.now) c.args.notes.now)
    (g.H.Host.seen c.args.host.now) (g.H.Host.seen c.write_problems.new.host) c.in-Err.halt c.in-Err.ensures (flat_map (note_line c.args.of) c.args.notes.now) refl (both_lines c.args.of c.args.problems.now c.args.notes.now)
