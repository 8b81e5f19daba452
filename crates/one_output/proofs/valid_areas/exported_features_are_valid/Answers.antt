use Rattle.one_output.proofs.valid_areas.exported_features_are_valid.Goals as goal
use Rattle.one_output.proofs.ValidAreas.Exports.{exported-valid, right-valid, written-valid}

pub returns-clause-export : goal.returns-clause-export
returns-clause-export c = exported-valid c.areas_are_valid.ensures

pub returns-clause-right : goal.returns-clause-right
returns-clause-right c = right-valid c.areas_are_valid.ensures

pub returns-clause-written : goal.returns-clause-written
returns-clause-written c = written-valid c.areas_are_valid.ensures
