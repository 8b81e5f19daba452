-- What the job did is what a run of it did.
use Rattle.osm_words.specs.Answers.{sample_seen}
use Rattle.osm_cli.proofs.Jobs.{of_sample}
use Rattle.osm_cli.proofs.running.run_sample.Goals as goal

pub returns : goal.returns
returns g c = of_sample (sample_seen c.args.settings.now) c.sample.result (g.H.Host.seen c.args.host.now) (g.H.Host.seen c.sample.new.host) c.sample.ensures.works c.sample.ensures.spares
