use Rattle.osm_words.specs.Answers.{coastline_seen}
use Rattle.job_coastline.proofs.CoastWhole.{wrote_over}
use Rattle.job_coastline.proofs.work.write_all.Goals as goal

pub returns : goal.returns
returns g c = λ objects counted.
    rw c.ended_after.ensures
    (wrote_over (coastline_seen c.args.settings.now) objects counted.input counted.is_input c.args.outlines counted.are (g.H.Host.seen c.args.host.now) (g.H.Host.seen c.write_coast.new.host) c.write_coast.result c.write_coast.ensures)
