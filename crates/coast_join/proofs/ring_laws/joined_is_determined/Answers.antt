use Rattle.coast_join.proofs.OneJoined.{one_joined}
use Rattle.coast_join.proofs.ring_laws.joined_is_determined.Goals as goal

pub returns : goal.returns
returns c chains limit closings are j k aj ak = one_joined chains limit closings are c.orbits_are_determined.ensures.one j k aj ak
