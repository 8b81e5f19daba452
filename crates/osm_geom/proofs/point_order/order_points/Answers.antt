use Rattle.std.proofs.Common.{rules}
use Rattle.osm_geom.proofs.PointOrders.{lattice_cmp_is}
use Rattle.osm_geom.proofs.point_order.order_points.Goals as goal

pub returns-in-Lattice-Lattice : goal.returns-in-Lattice-Lattice
returns-in-Lattice-Lattice c = rw (c.in-Lattice-Lattice.is-0, c.in-Lattice-Lattice.is-1, ← lattice_cmp_is c.in-Lattice-Lattice.p c.in-Lattice-Lattice.q) (search rules)
