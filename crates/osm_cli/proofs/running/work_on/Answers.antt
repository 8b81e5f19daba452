use Rattle.std.proofs.Common.{rules}
use Rattle.osm_words.specs.Answers.{job_seen}
use Rattle.osm_cli.proofs.OutputKept.{some_output, with_output_kept}
use Rattle.osm_cli.proofs.running.work_on.Goals as goal

pub returns : goal.returns
returns g c =
    with_output_kept (job_seen c.args.job.now) c.do_job-ended.result (g.H.Host.seen c.args.host.now) (g.H.Host.seen c.do_job-ended.new.host) (g.H.Host.seen c.keep.new.host) c.do_job-ended.ensures
    (some_output (job_seen c.args.job.now) (search rules)) c.keep.result c.keep.ensures
