use Rattle.area_certify.proofs.WholeTexts.{right_texts}
use Rattle.area_certify.proofs.laws.right_texts_are_features.Goals as goal

pub returns : goal.returns
returns c = right_texts
