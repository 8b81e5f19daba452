use Rattle.one_output.proofs.one_coast.coast_is_one.Goals as goal
use Rattle.one_output.proofs.OneCoast.CoastOne.{coast_one}

pub returns : goal.returns
returns c =
    coast_one c.chains_are_determined.ensures c.closings_are_determined.ensures c.joined_is_determined.ensures
    c.sorting_is_one.ensures c.land_is_one.ensures
