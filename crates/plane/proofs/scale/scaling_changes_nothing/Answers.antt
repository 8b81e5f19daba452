use Rattle.plane.proofs.scale.scaling_changes_nothing.Goals as goal
use Rattle.plane.proofs.Scaling.{crosses-scaled, crossing-scaled, left-scaled, order-scaled, orient-scaled, overlaps-scaled, sector-scaled}

pub returns-clause-order : goal.returns-clause-order
returns-clause-order c = order-scaled

pub returns-clause-side : goal.returns-clause-side
returns-clause-side c = orient-scaled

pub returns-clause-conflict : goal.returns-clause-conflict
returns-clause-conflict c = λ k hk s t. (overlaps-scaled k hk s t, crosses-scaled k hk s t)

pub returns-clause-left : goal.returns-clause-left
returns-clause-left c = left-scaled

pub returns-clause-crossing : goal.returns-clause-crossing
returns-clause-crossing c = crossing-scaled

pub returns-clause-sector : goal.returns-clause-sector
returns-clause-sector c = sector-scaled
