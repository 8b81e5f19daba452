use Rattle.plane_lists.proofs.ring_laws.walk.edges_alternate_round_node.Goals as goal
use Rattle.plane_lists.proofs.Rings.Successors.{by_turns, first_same}

pub returns-clause-turns : goal.returns-clause-turns
returns-clause-turns c = by_turns

pub returns-clause-neighbours : goal.returns-clause-neighbours
returns-clause-neighbours c = first_same
