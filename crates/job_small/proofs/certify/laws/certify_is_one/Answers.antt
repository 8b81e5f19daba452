use Rattle.job_small.proofs.Certifying.Endings.{certify_one}
use Rattle.job_small.proofs.certify.laws.certify_is_one.Goals as goal

pub returns : goal.returns
returns c = certify_one c.first_wrong_line_is_one.ensures c.verdicts_exclude.ensures
