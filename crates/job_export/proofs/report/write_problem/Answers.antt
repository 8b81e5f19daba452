use Rattle.std.proofs.Common.{[], subst, sym, ◌∙◌, ◌≡◌}
use Rattle.osm_text.specs.Report.{IsProblemLine}
use Rattle.job_export.proofs.ReportLines.{line_lacked, same_text}
use Rattle.job_export.proofs.report.write_problem.Goals as goal

pub returns-in-Ok : goal.returns-in-Ok
returns-in-Ok g c =
    same_text [] (λ text. text ≡ c.deref.result.now) (IsProblemLine c.args.of c.args.problem.now) (g.H.Host.seen c.args.host.now) (g.H.Host.seen c.write_line.new.host) c.write_line.result
    (λ a is. subst (IsProblemLine c.args.of c.args.problem.now) (sym (is ∙ c.deref.ensures.value)) c.in-Ok.ensures) c.write_line.ensures

pub returns-in-Err : goal.returns-in-Err
returns-in-Err g c =
    let line = c.problem_line_exists.ensures c.args.of c.args.problem.now c.requires in
    line_lacked (IsProblemLine c.args.of c.args.problem.now) (g.H.Host.seen c.args.host.now) line.0 line.1
