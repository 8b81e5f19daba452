use Rattle.job_small.proofs.Sampling.SampleWrites.{wrote_over}
use Rattle.job_small.proofs.sample.work.write_all.Goals as goal

pub returns-clause-works : goal.returns-clause-works
returns-clause-works g c =
    rw c.ended_by.ensures.ended
    (wrote_over c.args.count c.args.lines.now c.requires (g.H.Host.seen c.args.host.now) (g.H.Host.seen c.write_pieces.new.host) c.write_pieces.result c.write_pieces.ensures)
