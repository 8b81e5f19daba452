use Rattle.plane_lists.proofs.list_laws.odd_side.odd_side_is_sided.Goals as goal
use Rattle.plane_lists.proofs.Lists.Balance.{directed_balanced}
use Rattle.plane_lists.proofs.Lists.Levels.{signed_count}
use Rattle.plane_lists.proofs.Lists.SidedLists.{directed_sided, sided_direct}

pub returns-clause-balanced : goal.returns-clause-balanced
returns-clause-balanced c = directed_balanced

pub returns-clause-winding : goal.returns-clause-winding
returns-clause-winding c = signed_count

pub returns-clause-sided : goal.returns-clause-sided
returns-clause-sided c = directed_sided

pub returns-clause-only : goal.returns-clause-only
returns-clause-only c = sided_direct
