use Rattle.osm_geom.proofs.InPlane.MultipliedEdges.{just_above_alike, right_above_alike, spans_alike}
use Rattle.osm_geom.proofs.in_plane.edge.heights_are_as_in_plane.Goals as goal

pub returns-clause-spans : goal.returns-clause-spans
returns-clause-spans c = spans_alike

pub returns-clause-order : goal.returns-clause-order
returns-clause-order c = just_above_alike

pub returns-clause-right : goal.returns-clause-right
returns-clause-right c = right_above_alike
