use Rattle.osm_words.specs.Answers.{settings_seen}
use Rattle.osm_cli.proofs.Jobs.{of_export}
use Rattle.osm_cli.proofs.running.run_export.Goals as goal

pub returns : goal.returns
returns g c = of_export (settings_seen c.args.settings.now) c.export.result (g.H.Host.seen c.args.host.now) (g.H.Host.seen c.export.new.host) c.export.ensures
