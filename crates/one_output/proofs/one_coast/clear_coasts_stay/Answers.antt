use Rattle.one_output.proofs.OneCoast.ClearCoasts.{clear_coasts_stay}
use Rattle.one_output.proofs.one_coast.clear_coasts_stay.Goals as goal

pub returns : goal.returns
returns c = clear_coasts_stay c.clear_rings_stay.ensures c.sorting_exists.ensures c.land_exists.ensures
