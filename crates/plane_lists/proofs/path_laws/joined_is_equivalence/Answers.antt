use Rattle.plane_lists.proofs.path_laws.joined_is_equivalence.Goals as goal
use Rattle.plane_lists.proofs.Paths.Joins.{joined-back, joined-chain, joined-off, joined-scaled, joined-self}
use Rattle.plane_lists.proofs.Paths.Winds.{joined-winds}

pub returns-clause-itself : goal.returns-clause-itself
returns-clause-itself c = joined-self

pub returns-clause-symmetric : goal.returns-clause-symmetric
returns-clause-symmetric c = joined-back

pub returns-clause-transitive : goal.returns-clause-transitive
returns-clause-transitive c = joined-chain

pub returns-clause-off : goal.returns-clause-off
returns-clause-off c = joined-off

pub returns-clause-scaled : goal.returns-clause-scaled
returns-clause-scaled c = joined-scaled

pub returns-clause-winding : goal.returns-clause-winding
returns-clause-winding c = joined-winds
