use Rattle.job_export.proofs.ReportLines.{line_failed, line_written}
use Rattle.job_export.proofs.report.write_line.Goals as goal

pub returns-in-Ok : goal.returns-in-Ok
returns-in-Ok g c = line_written c.args.line.now (g.H.Host.seen c.args.host.now) (g.H.Host.seen c.write_report.new.host) tt tt c.in-Ok.ensures

pub returns-in-Err : goal.returns-in-Err
returns-in-Err g c = line_failed c.args.line.now (g.H.Host.seen c.args.host.now) (g.H.Host.seen c.write_report.new.host) c.in-Err.field-0 c.in-Err.ensures
