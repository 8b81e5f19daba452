-- What the job did is what a run of it did.
use Rattle.osm_words.specs.Answers.{filter_seen}
use Rattle.osm_cli.proofs.Jobs.{of_filter}
use Rattle.osm_cli.proofs.running.run_filter.Goals as goal

pub returns : goal.returns
returns g c = of_filter (filter_seen c.args.settings.now) c.filter_coast.result (g.H.Host.seen c.args.host.now) (g.H.Host.seen c.filter_coast.new.host) c.filter_coast.ensures.works c.filter_coast.ensures.spares
