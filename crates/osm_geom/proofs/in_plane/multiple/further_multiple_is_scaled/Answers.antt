use Rattle.osm_geom.proofs.InPlane.Multiples.{times_further}
use Rattle.osm_geom.proofs.in_plane.multiple.further_multiple_is_scaled.Goals as goal

pub returns : goal.returns
returns c = λ k m es common. times_further k m es common.some common.froms common.tos
