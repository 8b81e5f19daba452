use Rattle.plane_lists.proofs.Statuses.Statuses.{enters, passes, rises}
use Rattle.plane_lists.proofs.status_laws.sweep.status_goes_on.Goals as goal

pub returns-clause-enters : goal.returns-clause-enters
returns-clause-enters g c edge p xs status x place free is s within before after = enters edge p xs status x place free is s within before after

pub returns-clause-passes : goal.returns-clause-passes
returns-clause-passes g c edge p xs status x is away = passes edge p xs status x is away

pub returns-clause-rises : goal.returns-clause-rises
returns-clause-rises g c edge p q xs status free is both = rises edge p q xs status free is both
