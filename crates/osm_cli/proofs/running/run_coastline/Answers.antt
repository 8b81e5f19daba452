use Rattle.osm_words.specs.Answers.{coastline_seen}
use Rattle.osm_cli.proofs.Jobs.{of_coastline}
use Rattle.osm_cli.proofs.running.run_coastline.Goals as goal

pub returns : goal.returns
returns g c = of_coastline (coastline_seen c.args.settings.now) c.coastline.result (g.H.Host.seen c.args.host.now) (g.H.Host.seen c.coastline.new.host) c.coastline.ensures
