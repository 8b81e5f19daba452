use Rattle.plane_lists.proofs.list_laws.direction.direction_does_not_matter.Goals as goal
use Rattle.plane.specs.Vector.{from_to}
use Rattle.plane_lists.proofs.Lists.Independence.{parity_independent, winding_independent}

pub returns-clause-winding : goal.returns-clause-winding
returns-clause-winding c = winding_independent

pub returns-clause-parity : goal.returns-clause-parity
returns-clause-parity c = λ d e p. parity_independent d e (from_to p)
