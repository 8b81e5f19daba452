-- Points that tie are one.
use Rattle.std.proofs.Common.{sym}
use Rattle.osm_geom.proofs.GeometryKit.{point_same}
use Rattle.osm_geom.specs.declared.point.Point.TheVariants.{Lattice}
use Rattle.osm_rings.proofs.packed.is_at.Goals as goal

pub returns-in-Equal : goal.returns-in-Equal
returns-in-Equal c _ = point_same c.args.point.now (Lattice c.args.at) (sym c.in-Equal.ensures)
