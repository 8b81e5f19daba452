use Rattle.osm_geom.proofs.InPlane.MultipliedPoints.{order_is, same_is_same}
use Rattle.osm_geom.proofs.in_plane.point.points_are_as_in_plane.Goals as goal

pub returns-clause-order : goal.returns-clause-order
returns-clause-order c = order_is

pub returns-clause-apart : goal.returns-clause-apart
returns-clause-apart c = same_is_same
