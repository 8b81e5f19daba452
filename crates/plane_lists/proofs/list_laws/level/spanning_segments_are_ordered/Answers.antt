use Rattle.plane_lists.proofs.list_laws.level.spanning_segments_are_ordered.Goals as goal
use Rattle.plane_lists.proofs.Lists.Levels.{spanning-order}

pub returns : goal.returns
returns c = spanning-order
