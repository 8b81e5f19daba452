-- One more was taken out.
use Rattle.std.proofs.Common.{refl, ◌∙◌}
use Rattle.osm_nest.proofs.sweep.status.leave.Goals as goal

pub loop-status-init : goal.loop-status-init
loop-status-init c = (refl, λ e i. i)

pub loop-status-preserved : goal.loop-status-preserved
loop-status-preserved c = (c.take_out.ensures.within ∙ c.loop-status.invariant.0, λ e i. c.loop-status.invariant.1 e (c.take_out.ensures.members e i))

pub returns-clause-within : goal.returns-clause-within
returns-clause-within c = c.loop-status.invariant.0

pub returns-clause-members : goal.returns-clause-members
returns-clause-members c = c.loop-status.invariant.1
