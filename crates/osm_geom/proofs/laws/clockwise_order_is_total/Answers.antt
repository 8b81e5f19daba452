use Rattle.osm_geom.proofs.TotalTurns.{clockwise_total, clockwise_alone}
use Rattle.osm_geom.proofs.laws.clockwise_order_is_total.Goals as goal

pub returns-clause-total : goal.returns-clause-total
returns-clause-total c = clockwise_total

pub returns-clause-apart : goal.returns-clause-apart
returns-clause-apart c = clockwise_alone
