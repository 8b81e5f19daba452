use Rattle.coast_split.proofs.OffLeaves.{part}
use Rattle.coast_split.proofs.laws.leaves_part_the_list.Goals as goal

pub returns : goal.returns
returns c = part c.edge_parts_inside.ensures.parts
