use Rattle.std.proofs.Common.{[], refl, ◌∙◌, ◌≡◌}
use Rattle.osm_text.specs.Report.{note_line}
use Rattle.job_export.proofs.ReportLines.{line_lacked, same_text}
use Rattle.job_export.proofs.report.write_note.Goals as goal

pub returns-in-Ok : goal.returns-in-Ok
returns-in-Ok g c =
    same_text [] (λ text. text ≡ c.deref.result.now) (λ text. text ≡ note_line c.args.of c.args.note.now) (g.H.Host.seen c.args.host.now) (g.H.Host.seen c.write_line.new.host) c.write_line.result
    (λ a is. is ∙ c.deref.ensures.value ∙ c.in-Ok.ensures) c.write_line.ensures

pub returns-in-Err : goal.returns-in-Err
returns-in-Err g c = line_lacked (λ text. text ≡ note_line c.args.of c.args.note.now) (g.H.Host.seen c.args.host.now) (note_line c.args.of c.args.note.now) refl
