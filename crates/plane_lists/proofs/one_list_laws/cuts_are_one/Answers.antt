use Rattle.plane_lists.proofs.one_list_laws.cuts_are_one.Goals as goal
use Rattle.plane_lists.proofs.OneRingList.OneRingList.{cuts-ring-list, ring-list-one}

pub returns-clause-ring_list : goal.returns-clause-ring_list
returns-clause-ring_list c = cuts-ring-list

pub returns-clause-one : goal.returns-clause-one
returns-clause-one c = λ es sd ws vs rs qs aw k bw m. ring-list-one es sd rs qs (cuts-ring-list es sd ws rs aw k) (cuts-ring-list es sd vs qs bw m)
