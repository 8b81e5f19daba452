use Rattle.plane_lists.proofs.list_laws.odd_side.odd_side_by_rays.Goals as goal
use Rattle.plane_lists.proofs.Lists.Balance.{leaves_by_count}
use Rattle.plane_lists.proofs.Lists.ConflictFree.{off_away}
use Rattle.plane_lists.proofs.Lists.OddSides.{runs_from, runs_to}

pub returns-clause-ends : goal.returns-clause-ends
returns-clause-ends c = off_away

pub returns-clause-up : goal.returns-clause-up
returns-clause-up c = runs_from

pub returns-clause-down : goal.returns-clause-down
returns-clause-down c = runs_to

pub returns-clause-leaves : goal.returns-clause-leaves
returns-clause-leaves c = leaves_by_count
