use Rattle.osm_job.proofs.Writes.{wrote_out}
use Rattle.osm_job.proofs.writing.write_out.Goals as goal

pub returns : goal.returns
returns g c =
    wrote_out c.args.piece.now (g.H.Host.seen c.args.host.now) (g.H.Host.seen c.write_all_out.new.host) c.write_all_out.result
    c.write_all_out.ensures.all c.write_all_out.ensures.front c.write_all_out.ensures.cause c.write_all_out.ensures.rest
