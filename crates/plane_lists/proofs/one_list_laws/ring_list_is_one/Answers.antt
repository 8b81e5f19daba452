use Rattle.plane_lists.proofs.one_list_laws.ring_list_is_one.Goals as goal
use Rattle.plane_lists.proofs.OneRingList.Crescents.{two-lists}
use Rattle.plane_lists.proofs.OneRingList.OneRingList.{ring-list-one, rings-one}
use Rattle.plane_lists.proofs.OneRingList.Uncrossed.{rings-uncrossed}

pub returns-clause-ring : goal.returns-clause-ring
returns-clause-ring c = rings-one

pub returns-clause-ring_list : goal.returns-clause-ring_list
returns-clause-ring_list c = ring-list-one

pub returns-clause-uncrossed : goal.returns-clause-uncrossed
returns-clause-uncrossed c = rings-uncrossed

pub returns-clause-needed : goal.returns-clause-needed
returns-clause-needed c = two-lists
