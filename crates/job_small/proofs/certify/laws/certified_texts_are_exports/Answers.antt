use Rattle.job_small.proofs.Certifying.Exported.{certified_are_exports}
use Rattle.job_small.proofs.certify.laws.certified_texts_are_exports.Goals as goal

pub returns : goal.returns
returns c = certified_are_exports c.outcome_exists.ensures c.has_area_exactly.ensures c.right_texts_are_features.ensures
