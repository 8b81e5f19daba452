use Rattle.plane_lists.proofs.rounded_laws.moved_winds_alike.Goals as goal
use Rattle.plane_lists.proofs.Rounded.Moves.{moved-odd, moved-off, moved-winds}

pub returns-clause-off : goal.returns-clause-off
returns-clause-off c = λ h f g es n p k. moved-off h f g es n p k

pub returns-clause-winding : goal.returns-clause-winding
returns-clause-winding c = λ h f g es b n p k. moved-winds h f g es n p k b

pub returns-clause-parity : goal.returns-clause-parity
returns-clause-parity c = λ h f g es b n p k. moved-odd h f g es n p k b
