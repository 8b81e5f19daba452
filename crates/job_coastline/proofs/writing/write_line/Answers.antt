use Rattle.std.proofs.Common.{map, subst, Ok, Err, List, ℕ, [], ◌∷◌}
use Rattle.std.proofs.lemmas.List.Elements.{All-cons, All-nil}
use Rattle.osm_host.specs.declared.host.Failed.{Failed}
use Rattle.osm_job.specs.Sent.{to_report}
use Rattle.osm_job.specs.Writes.{Wrote}
use Rattle.osm_text.specs.Coast.{HasItsKind}
use Rattle.job_coastline.proofs.Made.{line_failed, line_not_printed, line_written}
use Rattle.job_coastline.proofs.writing.write_line.Goals as goal

pub returns-in_default : goal.returns-in_default
returns-in_default g c =
    line_not_printed {T = Unit {0}} (c.args.line.now ∷ []) (g.H.Host.seen c.args.host.now) c.pieces_exist.ensures.report (All-cons HasItsKind c.args.line.now [] c.requires (All-nil HasItsKind))

pub returns-in_default-write_report : goal.returns-in_default-write_report
returns-in_default-write_report g c =
    line_failed c.args.line.now c.in-Ok.text.items (g.H.Host.seen c.args.host.now) (g.H.Host.seen c.write_report.new.host) c.in_default-write_report.field-0 c.in-Ok.ensures
    (subst (λ (xs : List ℕ). Wrote {T = Unit {0}} {E = Failed} (map to_report xs) (g.H.Host.seen c.args.host.now) (g.H.Host.seen c.write_report.new.host) (Err c.in_default-write_report.field-0)) c.deref.ensures.value c.in_default-write_report.ensures)

pub returns : goal.returns
returns g c =
    line_written c.args.line.now c.in-Ok.text.items (g.H.Host.seen c.args.host.now) (g.H.Host.seen c.write_report.new.host) c.in-Ok.ensures
    (subst (λ (xs : List ℕ). Wrote {T = Unit {0}} {E = Failed} (map to_report xs) (g.H.Host.seen c.args.host.now) (g.H.Host.seen c.write_report.new.host) (Ok tt)) c.deref.ensures.value c.in-Ok-write_report.ensures)
