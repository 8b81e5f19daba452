use Rattle.area_certify.proofs.Verdicts.{a_verdict}
use Rattle.area_certify.proofs.laws.texts_have_a_verdict.Goals as goal

pub returns : goal.returns
returns c = a_verdict c.outcome_exists.ensures c.has_area_exactly.ensures c.outcome_is_one.ensures
