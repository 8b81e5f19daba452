use Rattle.plane_lists.proofs.ring_laws.walk.pieces_are_ring_list.Goals as goal
use Rattle.plane_lists.proofs.Rings.Pieces.{piece_walk, pieces_constant, pieces_same, ring_list}

pub returns-clause-ring : goal.returns-clause-ring
returns-clause-ring c = piece_walk

pub returns-clause-each_edge : goal.returns-clause-each_edge
returns-clause-each_edge c = pieces_same

pub returns-clause-cover : goal.returns-clause-cover
returns-clause-cover c = pieces_constant

pub returns-clause-ring_list : goal.returns-clause-ring_list
returns-clause-ring_list c = ring_list
