use Rattle.coast_join.proofs.ClosedEnds.{closed_differ}
use Rattle.coast_join.proofs.ring_laws.closed_ends_differ.Goals as goal

pub returns : goal.returns
returns c = closed_differ
