-- Each ending by its lemma on a job that reads an input and then a text.
use Rattle.std.proofs.Common.{ℕ, List, [], subst}
use Rattle.osm_words.specs.Answers.{certify_seen}
use Rattle.osm_job.proofs.BothThenOutput.{lacks_both, no_memory_both}
use Rattle.osm_job.specs.Whole.{silent}
use Rattle.job_small.specs.Certifying.Certify.{IsCertify}
use Rattle.job_small.proofs.Certifying.Endings.{judged}
use Rattle.job_small.proofs.certify.work.certify_text.Goals as goal

pub returns-in-Err : goal.returns-in-Err
returns-in-Err g c =
    lacks_both c.streams_append.ensures c.args.settings.now.file.now c.args.settings.now.text.now [] (IsCertify (certify_seen c.args.settings.now))
    (g.H.Host.seen c.args.host.now) c.in-Err.ended (g.H.Host.seen c.read_both.new.host) c.in-Err.ensures

pub returns-in-Ok-judge : goal.returns-in-Ok-judge
returns-in-Ok-judge g c =
    judged c.streams_append.ensures (certify_seen c.args.settings.now) c.in-Ok.both.0 c.in-Ok.both.1.items (g.H.Host.seen c.args.host.now)
    (g.H.Host.seen c.read_both.new.host) c.in-Ok.ensures c.in-Ok-judge.ended
    (subst (λ (text : List ℕ). IsCertify (certify_seen c.args.settings.now) c.in-Ok.both.0 text (silent c.in-Ok-judge.ended)) c.deref.ensures.value
    c.in-Ok-judge.ensures)

pub returns : goal.returns
returns g c =
    no_memory_both c.streams_append.ensures c.args.settings.now.file.now c.args.settings.now.text.now [] (IsCertify (certify_seen c.args.settings.now))
    (g.H.Host.seen c.args.host.now) c.in-Ok.both.0 c.in-Ok.both.1.items (g.H.Host.seen c.read_both.new.host) c.in-Ok.ensures
