use Rattle.plane_lists.proofs.Statuses.Fronts.{all_is_front, front_is_all, next_enters, next_passes}
use Rattle.plane_lists.proofs.status_laws.sweep.status_grows.Goals as goal

pub returns-clause-enters : goal.returns-clause-enters
returns-clause-enters g c edge p xs status k x place free is inside next spans within before after = next_enters edge xs k x inside next p status place free is spans within before after

pub returns-clause-passes : goal.returns-clause-passes
returns-clause-passes g c edge p xs status k x is inside next away = next_passes edge xs k x inside next p status is away

pub returns-clause-all : goal.returns-clause-all
returns-clause-all g c edge p xs status k none is = front_is_all edge p xs k none status is

pub returns-clause-front : goal.returns-clause-front
returns-clause-front g c edge p xs status k none is = all_is_front edge p xs k none status is
