use Rattle.area_certify.proofs.Verdicts.{one_number}
use Rattle.area_certify.proofs.laws.first_wrong_line_is_one.Goals as goal

pub returns : goal.returns
returns c = one_number
