use Rattle.osm_job.proofs.Writes.{wrote_report}
use Rattle.osm_job.proofs.writing.write_report.Goals as goal

pub returns : goal.returns
returns g c =
    wrote_report c.args.piece.now (g.H.Host.seen c.args.host.now) (g.H.Host.seen c.write_all_report.new.host) c.write_all_report.result
    c.write_all_report.ensures.all c.write_all_report.ensures.front c.write_all_report.ensures.cause c.write_all_report.ensures.rest
