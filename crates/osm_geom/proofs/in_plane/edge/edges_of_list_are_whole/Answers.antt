use Rattle.osm_geom.proofs.InPlane.MultipliedEdges.{each_whole}
use Rattle.osm_geom.proofs.in_plane.edge.edges_of_list_are_whole.Goals as goal

pub returns : goal.returns
returns c = each_whole
