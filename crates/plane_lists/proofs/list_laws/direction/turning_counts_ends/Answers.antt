use Rattle.plane_lists.proofs.list_laws.direction.turning_counts_ends.Goals as goal
use Rattle.plane_lists.proofs.Lists.Independence.{turning_parity, turning_winding}

pub returns-clause-winding : goal.returns-clause-winding
returns-clause-winding c = turning_winding

pub returns-clause-parity : goal.returns-clause-parity
returns-clause-parity c = turning_parity
