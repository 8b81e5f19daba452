-- By the fractions of both.
use Rattle.std.proofs.Common.{◌∙◌}
use Rattle.osm_geom.specs.RatioOrder.{fraction_of}
use Rattle.osm_geom.proofs.PointOrders.{height_cmp_by}
use Rattle.osm_geom.proofs.point_order.compare_heights_by_fractions.Goals as goal

pub returns : goal.returns
returns c = c.compare.ensures ∙ height_cmp_by (fraction_of c.y_ratio.result) (fraction_of c.y_ratio-2.result) c.args.p.now c.args.q.now c.y_ratio.ensures c.y_ratio-2.ensures
