use Rattle.plane_lists.proofs.connected_laws.left_neighbour_is_earlier.Goals as goal
use Rattle.plane_lists.proofs.Connected.LinkedEdges.{neighbour_there, walk_earlier}

pub returns-clause-exists : goal.returns-clause-exists
returns-clause-exists c = neighbour_there

pub returns-clause-earlier : goal.returns-clause-earlier
returns-clause-earlier c = walk_earlier
