use Rattle.plane_lists.proofs.list_laws.count.count_is_of_crossed_edges.Goals as goal
use Rattle.plane_lists.proofs.Lists.Counts.{count-crossed, count-right}

pub returns-clause-crossed : goal.returns-clause-crossed
returns-clause-crossed c = count-crossed

pub returns-clause-right : goal.returns-clause-right
returns-clause-right c = count-right
