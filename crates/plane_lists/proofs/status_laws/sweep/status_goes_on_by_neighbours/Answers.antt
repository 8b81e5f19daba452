use Rattle.plane_lists.proofs.Statuses.Statuses.{climbs, fits, leaves}
use Rattle.plane_lists.proofs.status_laws.sweep.status_goes_on_by_neighbours.Goals as goal

pub returns-clause-fits : goal.returns-clause-fits
returns-clause-fits g c edge p xs status x place is s within before after = fits edge p xs status x place is s within before after

pub returns-clause-leaves : goal.returns-clause-leaves
returns-clause-leaves g c edge p front back status x place is inside at = leaves edge p front back status x place is inside at

pub returns-clause-climbs : goal.returns-clause-climbs
returns-clause-climbs g c edge p q xs status es free among is same = climbs edge p q xs status es free among is same
