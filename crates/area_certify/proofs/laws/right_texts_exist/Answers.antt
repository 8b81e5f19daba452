use Rattle.area_certify.proofs.WholeTexts.{right_text}
use Rattle.area_certify.proofs.laws.right_texts_exist.Goals as goal

pub returns : goal.returns
returns c = right_text c.outcome_exists.ensures c.has_area_exactly.ensures
