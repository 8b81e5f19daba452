use Rattle.plane_lists.proofs.rounded_laws.rounded_winds_alike.Goals as goal
use Rattle.plane_lists.proofs.Rounded.Roundings.{beyond-off, rounded-near, rounded-odd, rounded-off, rounded-winds}

pub returns-clause-near : goal.returns-clause-near
returns-clause-near c = rounded-near

pub returns-clause-beyond : goal.returns-clause-beyond
returns-clause-beyond c = λ m some es q plus p k. beyond-off m some es q plus p k

pub returns-clause-off : goal.returns-clause-off
returns-clause-off c = λ m some es q plus p k. rounded-off m some es q plus p k

pub returns-clause-winding : goal.returns-clause-winding
returns-clause-winding c = λ m some es b q plus p k. rounded-winds m some es q plus p k b

pub returns-clause-parity : goal.returns-clause-parity
returns-clause-parity c = λ m some es b q plus p k. rounded-odd m some es q plus p k b
