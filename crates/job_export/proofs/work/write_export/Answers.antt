use Rattle.osm_words.specs.Answers.{settings_seen}
use Rattle.job_export.proofs.Wholes.{wrote_over}
use Rattle.job_export.proofs.work.write_export.Goals as goal

pub returns : goal.returns
returns g c =
    rw c.ended_by_halt.ensures (wrote_over (settings_seen c.args.settings.now) c.args.store.now (g.H.Host.seen c.args.host.now) (g.H.Host.seen c.write_whole.new.host) c.write_whole.result c.write_whole.ensures)
