use Rattle.plane_lists.proofs.rounded_laws.clear_has_no_point.Goals as goal
use Rattle.plane_lists.proofs.Rounded.ClearEdges.{clear-exactly}

pub returns : goal.returns
returns c = clear-exactly
