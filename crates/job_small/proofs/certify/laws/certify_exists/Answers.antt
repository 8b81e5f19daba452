use Rattle.job_small.proofs.Certifying.Endings.{certify_there}
use Rattle.job_small.proofs.certify.laws.certify_exists.Goals as goal

pub returns : goal.returns
returns c = certify_there c.texts_have_a_verdict.ensures
