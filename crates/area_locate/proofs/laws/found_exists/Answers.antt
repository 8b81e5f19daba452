-- Each candidate has an outcome, and is sound or not.
use Rattle.area_locate.proofs.Founds.{found_exists}
use Rattle.area_locate.proofs.laws.found_exists.Goals as goal

pub returns : goal.returns
returns c = found_exists c.outcome_exists.ensures c.has_area_exactly.ensures
