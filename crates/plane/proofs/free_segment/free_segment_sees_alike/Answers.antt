use Rattle.plane.proofs.free_segment.free_segment_sees_alike.Goals as goal
use Rattle.plane.proofs.FreeSegments.{end_alike, end_edge_none, inner_point_off, inner_points_alike, misses_reversed}

pub returns-clause-both_ways : goal.returns-clause-both_ways
returns-clause-both_ways c = misses_reversed

pub returns-clause-off : goal.returns-clause-off
returns-clause-off c = inner_point_off

pub returns-clause-inside : goal.returns-clause-inside
returns-clause-inside c = inner_points_alike

pub returns-clause-from_end : goal.returns-clause-from_end
returns-clause-from_end c = end_alike

pub returns-clause-at_end : goal.returns-clause-at_end
returns-clause-at_end c = end_edge_none
