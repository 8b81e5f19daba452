use Rattle.plane.proofs.sign.direction_is_not_zero.Goals as goal
use Rattle.plane.proofs.PointOrder.{rising-direction}
use Rattle.plane.proofs.Products.{direction-from}

pub returns-clause-vector : goal.returns-clause-vector
returns-clause-vector c = direction-from

pub returns-clause-segment : goal.returns-clause-segment
returns-clause-segment c = λ e r. rising-direction e.from e.to r
