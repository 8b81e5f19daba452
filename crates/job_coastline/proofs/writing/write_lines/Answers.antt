use Rattle.job_coastline.proofs.Made.{next_line, next_line_broken, no_report}
use Rattle.job_coastline.proofs.writing.write_lines.Goals as goal

pub loop-line-init : goal.loop-line-init
loop-line-init g c = no_report (g.H.Host.seen c.args.host.now)

pub loop-line-preserved : goal.loop-line-preserved
loop-line-preserved g c =
    next_line c.args.lines.now c.loop-line.line-index c.line-item.result c.loop-line-test.true c.line-item.is (g.H.Host.seen c.args.host.now) (g.H.Host.seen c.loop-line.host) (g.H.Host.seen c.write_line.new.host)
    c.loop-line.invariant c.in_default.ensures

pub returns-in-Err : goal.returns-in-Err
returns-in-Err g c =
    next_line_broken c.args.lines.now c.loop-line.line-index c.line-item.result c.loop-line-test.true c.line-item.is (g.H.Host.seen c.args.host.now) (g.H.Host.seen c.loop-line.host) (g.H.Host.seen c.write_line.new.host)
    c.pieces_exist.ensures.report c.requires c.in-Err.broken c.loop-line.invariant c.in-Err.ensures
