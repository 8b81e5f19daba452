use Rattle.plane_lists.proofs.list_laws.along_segment.parity_is_one_along_segment.Goals as goal
use Rattle.plane_lists.proofs.Lists.AlongSegment.{parity_along_segment, parity_from_both_ends, parity_from_end, winding_along_segment}
use Rattle.plane_lists.proofs.Lists.OwnEdge.{parity_along_own_edge}

pub returns-clause-parity : goal.returns-clause-parity
returns-clause-parity c = parity_along_segment

pub returns-clause-winding : goal.returns-clause-winding
returns-clause-winding c = winding_along_segment

pub returns-clause-from_end : goal.returns-clause-from_end
returns-clause-from_end c = parity_from_end

pub returns-clause-from_both_ends : goal.returns-clause-from_both_ends
returns-clause-from_both_ends c = parity_from_both_ends

pub returns-clause-own_edge : goal.returns-clause-own_edge
returns-clause-own_edge c = parity_along_own_edge
