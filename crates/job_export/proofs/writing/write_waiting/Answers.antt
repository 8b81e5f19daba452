-- What waits, and then a report.
use Rattle.std.proofs.Common.{List, [], ap, rules, subst, sym, ℕ, ◌++◌, ◌≡◌}
use Rattle.job_export.specs.Reports.{IsReportOf}
use Rattle.job_export.proofs.ReportLines.{report_there, text_behind, waiting_failed, waiting_written}
use Rattle.job_export.proofs.writing.write_waiting.Goals as goal

pub returns-in_default : goal.returns-in_default
returns-in_default g c =
    let there = report_there c.problem_line_exists.ensures c.args.of c.args.report.now.problems c.args.report.now.notes c.requires.told in
    record {
      wrote = waiting_failed c.args.waiting.now.items (IsReportOf c.args.of c.args.report.now) (g.H.Host.seen c.args.host.now) (g.H.Host.seen c.write_features.new.host) c.in_default.field-0 (rw (← c.deref.ensures.value) c.in_default.ensures) there.0 there.1;
      none = tt;
    }

pub returns : goal.returns
returns g c =
    let first = waiting_written c.args.waiting.now.items (g.H.Host.seen c.args.host.now) (g.H.Host.seen c.write_features.new.host) c.in-Ok.field-0 tt (rw (← c.deref.ensures.value) c.in-Ok.ensures) in
    record {
      wrote = text_behind c.args.waiting.now.items (λ text. text ≡ []) (IsReportOf c.args.of c.args.report.now) (IsReportOf c.args.of c.args.report.now) (g.H.Host.seen c.args.host.now) (g.H.Host.seen c.write_features.new.host) (g.H.Host.seen c.write_report_of.new.host) tt c.write_report_of.result first c.write_report_of.ensures
          (λ a b none is. subst (IsReportOf c.args.of c.args.report.now) (ap (λ (xs : List ℕ). xs ++ b) (sym none)) is);
      none = search rules;
    }
