use Rattle.plane_lists.proofs.list_laws.round_node.parity_changes_round_node.Goals as goal
use Rattle.plane_lists.proofs.Lists.AlongSegment.{parity_between_segments}
use Rattle.plane_lists.proofs.Lists.RoundNode.{parity_round_node, parity_round_node_but_edge, parity_round_point}

pub returns-clause-node : goal.returns-clause-node
returns-clause-node c = parity_round_node

pub returns-clause-but_edge : goal.returns-clause-but_edge
returns-clause-but_edge c = parity_round_node_but_edge

pub returns-clause-between_segments : goal.returns-clause-between_segments
returns-clause-between_segments c = parity_between_segments

pub returns-clause-point : goal.returns-clause-point
returns-clause-point c = parity_round_point
