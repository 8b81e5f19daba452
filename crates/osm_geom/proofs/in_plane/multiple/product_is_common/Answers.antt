use Rattle.osm_geom.proofs.InPlane.Commons.{common_is_common}
use Rattle.osm_geom.proofs.in_plane.multiple.product_is_common.Goals as goal

pub returns : goal.returns
returns c = common_is_common
