use Rattle.plane_lists.proofs.half_laws.half.half_counts_as_list.Goals as goal
use Rattle.plane_lists.proofs.Halves.Halves.{beyond-at, kept-at}

pub returns-clause-kept : goal.returns-clause-kept
returns-clause-kept c = λ l cs zs h q hq p s off. kept-at l cs zs h q hq p s off

pub returns-clause-beyond : goal.returns-clause-beyond
returns-clause-beyond c = λ l cs zs h q hq p s. beyond-at l cs zs h q hq p s
