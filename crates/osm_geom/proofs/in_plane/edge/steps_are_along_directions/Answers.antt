use Rattle.osm_geom.proofs.InPlane.MultipliedEdges.{back_along, cross_alike, dot_alike, rises_alike, segment_rises, step_along}
use Rattle.osm_geom.proofs.in_plane.edge.steps_are_along_directions.Goals as goal

pub returns-clause-along : goal.returns-clause-along
returns-clause-along c = step_along

pub returns-clause-back : goal.returns-clause-back
returns-clause-back c = back_along

pub returns-clause-cross : goal.returns-clause-cross
returns-clause-cross c = cross_alike

pub returns-clause-dot : goal.returns-clause-dot
returns-clause-dot c = dot_alike

pub returns-clause-rising : goal.returns-clause-rising
returns-clause-rising c = rises_alike

pub returns-clause-segment : goal.returns-clause-segment
returns-clause-segment c = segment_rises
