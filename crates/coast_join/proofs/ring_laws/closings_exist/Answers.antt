use Rattle.coast_join.proofs.SomeJoined.{some_closings}
use Rattle.coast_join.proofs.ring_laws.closings_exist.Goals as goal

pub returns : goal.returns
returns c = some_closings c.names_rise.ensures c.counted_lists_exist.ensures
