use Rattle.plane_lists.proofs.valid_laws.rings_share_one_node.Goals as goal
use Rattle.plane_lists.proofs.Valid.SharedNodes.{rings_share_one, rings_share_one_point}

pub returns-clause-node : goal.returns-clause-node
returns-clause-node c = rings_share_one

pub returns-clause-point : goal.returns-clause-point
returns-clause-point c = rings_share_one_point
