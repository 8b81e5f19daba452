use Rattle.plane.proofs.height.order_above_persists.Goals as goal
use Rattle.plane.proofs.Heights.{not-right-itself, order_persists, right-above-chain}

pub returns-clause-itself : goal.returns-clause-itself
returns-clause-itself c = not-right-itself

pub returns-clause-transitive : goal.returns-clause-transitive
returns-clause-transitive c = right-above-chain

pub returns-clause-persists : goal.returns-clause-persists
returns-clause-persists c = order_persists
