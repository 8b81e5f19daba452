use Rattle.plane.proofs.order.points_are_ordered.Goals as goal
use Rattle.plane.proofs.PointOrder.{order-chain, order-null-is, order-reversed}

pub returns-clause-tells_apart : goal.returns-clause-tells_apart
returns-clause-tells_apart c = order-null-is

pub returns-clause-reverses : goal.returns-clause-reverses
returns-clause-reverses c = order-reversed

pub returns-clause-transitive : goal.returns-clause-transitive
returns-clause-transitive c = order-chain
