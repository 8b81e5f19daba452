use Rattle.one_output.proofs.one_coast.coast_exists.Goals as goal
use Rattle.one_output.proofs.OneCoast.CoastThere.{coast_there}

pub returns : goal.returns
returns c =
    coast_there c.coast_ways_exist.ensures c.chains_exist.ensures c.closings_exist.ensures c.joined_exists.ensures
    c.sorting_exists.ensures c.land_exists.ensures
