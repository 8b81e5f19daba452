use Rattle.plane_lists.proofs.list_laws.rank.ranks_are_first_numbers.Goals as goal
use Rattle.plane_lists.proofs.Lists.Ranks.{rank_law, rank_parity_law}

pub returns-clause-numbers : goal.returns-clause-numbers
returns-clause-numbers c = λ _. rank_law

pub returns-clause-halves : goal.returns-clause-halves
returns-clause-halves c = λ _. rank_parity_law
