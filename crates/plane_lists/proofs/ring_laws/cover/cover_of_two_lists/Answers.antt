use Rattle.plane_lists.proofs.ring_laws.cover.cover_of_two_lists.Goals as goal
use Rattle.plane_lists.proofs.Rings.CoveredEdges.{constant_in}
use Rattle.plane_lists.proofs.Rings.TwoLists.{clear-list, contained, disjoint, not_both_in}

pub returns-clause-along_ring : goal.returns-clause-along_ring
returns-clause-along_ring c = λ rs r es ps pl even cl n s t i j. constant_in rs r es ps pl even (λ x k. clear-list _ es cl x k) n s t i j

pub returns-clause-not_each : goal.returns-clause-not_each
returns-clause-not_each c = λ ss es a x i h k. not_both_in ss es a.plain_s a.plain a.even_s a.even a.clear x i h k

pub returns-clause-within : goal.returns-clause-within
returns-clause-within c = λ ss es a p h k o. contained ss es a.plain_s a.plain a.even_s a.even a.clear p h k o

pub returns-clause-apart : goal.returns-clause-apart
returns-clause-apart c = λ ss es a p h k o u. disjoint ss es a.plain_s a.plain a.even_s a.even a.clear p h k o u
