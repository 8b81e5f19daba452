use Rattle.coast_split.proofs.OffLeaves.{leaves-off, list-off}
use Rattle.coast_split.proofs.laws.leaves_have_edges.Goals as goal

pub returns-clause-kept : goal.returns-clause-kept
returns-clause-kept c = list-off c.edge_parts_inside.ensures.parts

pub returns-clause-added : goal.returns-clause-added
returns-clause-added c = λ m o es t h sd q hq p off cuts. leaves-off m o q hq p es t h sd off cuts
