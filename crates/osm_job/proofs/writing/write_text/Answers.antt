use Rattle.osm_job.proofs.TextWritten.{all_written, front_written}
use Rattle.osm_job.proofs.writing.write_text.Goals as goal

pub returns-in-Ok-clause-works : goal.returns-in-Ok-clause-works
returns-in-Ok-clause-works g c = all_written c.args.text.now (g.H.Host.seen c.args.host.now) (g.H.Host.seen c.write_out.new.host) tt c.in-Ok.ensures

pub returns-in-Err-clause-works : goal.returns-in-Err-clause-works
returns-in-Err-clause-works g c = front_written c.args.text.now (g.H.Host.seen c.args.host.now) (g.H.Host.seen c.write_out.new.host) c.in-Err.field-0 c.in-Err.ensures
