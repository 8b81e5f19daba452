-- What the job did is what a run of it did.
use Rattle.osm_words.specs.Answers.{locate_seen}
use Rattle.osm_cli.proofs.Jobs.{of_locate}
use Rattle.osm_cli.proofs.running.run_locate.Goals as goal

pub returns : goal.returns
returns g c = of_locate (locate_seen c.args.settings.now) c.locate_points.result (g.H.Host.seen c.args.host.now) (g.H.Host.seen c.locate_points.new.host) c.locate_points.ensures.works c.locate_points.ensures.spares
