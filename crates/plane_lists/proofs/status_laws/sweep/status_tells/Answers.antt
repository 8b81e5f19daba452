use Rattle.plane_lists.proofs.Statuses.Statuses.{counts, nearest, parted}
use Rattle.plane_lists.proofs.status_laws.sweep.status_tells.Goals as goal

pub returns-clause-counts : goal.returns-clause-counts
returns-clause-counts g c edge p xs status is test spans = counts edge p xs status is test spans

pub returns-clause-last : goal.returns-clause-last
returns-clause-last g c edge p xs status is x s = parted edge p xs status is x s

pub returns-clause-nearest : goal.returns-clause-nearest
returns-clause-nearest g c edge p xs status is i d inside f j r = nearest edge p xs status is i d inside f j r
