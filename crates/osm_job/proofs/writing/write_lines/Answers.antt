use Rattle.std.proofs.Common.{rules, ℕ, Vec, Ok, Err}
use Rattle.std.specs.declared.alloc.Global.{Global}
use Rattle.osm_job.specs.Sent.{to_report}
use Rattle.osm_job.proofs.Writes.{next_wrote, next_failed, same_line}
use Rattle.osm_job.proofs.writing.write_lines.Goals as goal

pub returns-in-Err : goal.returns-in-Err
returns-in-Err g c =
    next_failed to_report (λ (line : Vec ℕ Global). line.items) c.args.lines.now c.loop-line.line-index c.line-item.result c.loop-line-test.true
    (g.H.Host.seen c.args.host.now) (g.H.Host.seen c.loop-line.host) (g.H.Host.seen c.write_report.new.host) c.in-Err.failed c.loop-line.invariant
    (same_line to_report _ _ _ (g.H.Host.seen c.loop-line.host) (g.H.Host.seen c.write_report.new.host) (Err c.in-Err.failed) c.line-item.is c.deref.ensures.value c.in-Err.ensures)

pub loop-line-preserved : goal.loop-line-preserved
loop-line-preserved g c =
    next_wrote to_report (λ (line : Vec ℕ Global). line.items) c.args.lines.now c.loop-line.line-index c.line-item.result c.loop-line-test.true
    (g.H.Host.seen c.args.host.now) (g.H.Host.seen c.loop-line.host) (g.H.Host.seen c.write_report.new.host) c.loop-line.invariant
    (same_line to_report _ _ _ (g.H.Host.seen c.loop-line.host) (g.H.Host.seen c.write_report.new.host) (Ok tt) c.line-item.is c.deref.ensures.value (search rules))
