use Rattle.std.proofs.Common.{◌∙◌, rules}
use Rattle.osm_geom.proofs.PointOrders.{lattice_cmp_is, point_cmp_is}
use Rattle.osm_geom.proofs.point_order.compare_points.Goals as goal

pub returns-in-Lattice-Lattice : goal.returns-in-Lattice-Lattice
returns-in-Lattice-Lattice c = rw (c.in-Lattice-Lattice.is-0, c.in-Lattice-Lattice.is-1, ← lattice_cmp_is c.in-Lattice-Lattice.p c.in-Lattice-Lattice.q) (search rules)

pub returns-in_default : goal.returns-in_default
returns-in_default c = c.compare_by_fractions.ensures ∙ point_cmp_is c.args.p c.args.q
