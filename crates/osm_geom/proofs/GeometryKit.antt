-- Exact points and edges: what crates above take of the lemmas on them.
pub use Rattle.osm_geom.proofs.CutPointExists.{CutPointOf, cut_point_exists}
pub use Rattle.osm_geom.proofs.CutPoints.{in-world, order_at, stands, whole-null, whole_frac}
pub use Rattle.osm_geom.proofs.Floors.{at_least_less, at_most_more, ceiling-from, ceiling-is, floor-from, floor-is}
pub use Rattle.osm_geom.proofs.LineOrders.{rise_scaled}
pub use Rattle.osm_geom.proofs.Parts.{part_frac, part_whole}
pub use Rattle.osm_geom.proofs.PointOrders.{point_cmp_is, x_den-some, y_den-some}
pub use Rattle.osm_geom.proofs.SameEdges.{edge-from-fields}
pub use Rattle.osm_geom.proofs.SegmentEnds.{ends_apart, ends_apart_back, in_world, on_a, on_b}
pub use Rattle.osm_geom.proofs.TotalPoints.{neither_less, point_same, point_total, same_by}
pub use Rattle.osm_geom.proofs.TotalTurns.{along-direction, clockwise_total}
