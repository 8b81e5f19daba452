use Rattle.plane_lists.proofs.path_laws.edge_parts_inside.Goals as goal
use Rattle.plane_lists.proofs.Paths.BesideInside.{edge-parts-inside, winds-across-edge}

pub returns-clause-parts : goal.returns-clause-parts
returns-clause-parts c = edge-parts-inside

pub returns-clause-winds : goal.returns-clause-winds
returns-clause-winds c = winds-across-edge
