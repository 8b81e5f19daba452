use Rattle.plane_lists.proofs.list_laws.scaled_list.scaled_list_is_alike.Goals as goal
use Rattle.plane_lists.proofs.Lists.ScaledLists.{count_scaled, directed_scaled, even_scaled, plain_scaled, rational_count}

pub returns-clause-conflict_free : goal.returns-clause-conflict_free
returns-clause-conflict_free c = plain_scaled

pub returns-clause-even : goal.returns-clause-even
returns-clause-even c = even_scaled

pub returns-clause-directed : goal.returns-clause-directed
returns-clause-directed c = directed_scaled

pub returns-clause-count : goal.returns-clause-count
returns-clause-count c = count_scaled

pub returns-clause-fractions : goal.returns-clause-fractions
returns-clause-fractions c = rational_count
