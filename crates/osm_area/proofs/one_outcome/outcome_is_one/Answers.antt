use Rattle.osm_area.proofs.one_outcome.outcome_is_one.Goals as goal
use Rattle.osm_area.proofs.OutcomeOne.{candidate-one}

pub returns : goal.returns
returns c = candidate-one
