use Rattle.osm_geom.proofs.TotalPoints.{point_total, point_alone}
use Rattle.osm_geom.proofs.laws.point_order_is_total.Goals as goal

pub returns-clause-total : goal.returns-clause-total
returns-clause-total c = point_total

pub returns-clause-apart : goal.returns-clause-apart
returns-clause-apart c = point_alone
