use Rattle.area_certify.proofs.Verdicts.{not_both}
use Rattle.area_certify.proofs.laws.verdicts_exclude.Goals as goal

pub returns : goal.returns
returns c = not_both
