-- What the job did is what a run of it did.
use Rattle.osm_words.specs.Answers.{certify_seen}
use Rattle.osm_cli.proofs.Jobs.{of_certify}
use Rattle.osm_cli.proofs.running.run_certify.Goals as goal

pub returns : goal.returns
returns g c = of_certify (certify_seen c.args.settings.now) c.certify_text.result (g.H.Host.seen c.args.host.now) (g.H.Host.seen c.certify_text.new.host) c.certify_text.ensures
