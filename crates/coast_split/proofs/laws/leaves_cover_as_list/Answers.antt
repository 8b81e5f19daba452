use Rattle.coast_split.proofs.LeafCover.{leaves-sided}
use Rattle.coast_split.proofs.OffLeaves.{cover}
use Rattle.coast_split.proofs.laws.leaves_cover_as_list.Goals as goal

pub returns-clause-sided : goal.returns-clause-sided
returns-clause-sided c = leaves-sided

pub returns-clause-cover : goal.returns-clause-cover
returns-clause-cover c = cover c.edge_parts_inside.ensures.parts
