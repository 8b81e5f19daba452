use Rattle.osm_words.specs.Answers.{certify_seen}
use Rattle.job_small.proofs.Certifying.Endings.{says_wrong}
use Rattle.job_small.proofs.certify.work.judge.Goals as goal

pub returns : goal.returns
returns c =
    says_wrong (certify_seen c.args.settings.now) c.args.store.now c.args.text.now c.in_ok-choice.choice c.in_ok-choice.ensures
    c.in-No.line ((c.in_ok-certify.ensures.no c.in-No.line).0 c.in-No.is)
