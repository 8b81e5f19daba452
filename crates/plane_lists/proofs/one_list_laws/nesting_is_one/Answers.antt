use Rattle.plane_lists.proofs.one_list_laws.nesting_is_one.Goals as goal
use Rattle.plane_lists.proofs.OneRingList.OneRingList.{found}
use Rattle.plane_lists.proofs.OneRingList.SameNests.{encloses-same, inner-same, outer-same}
use Rattle.plane_lists.proofs.OneRingList.Uncrossed.{rings-uncrossed}

pub returns-clause-kinds : goal.returns-clause-kinds
returns-clause-kinds c = λ es sd rs qs l m r q i j t.
    let u = rings-uncrossed es sd rs l in
    let v = rings-uncrossed es sd qs m in
    (outer-same rs qs u v r q i j t, inner-same rs qs u v r q i j t)

pub returns-clause-direct : goal.returns-clause-direct
returns-clause-direct c = λ es sd rs qs l m r q h j ir iq t u.
    encloses-same rs qs (rings-uncrossed es sd rs l) (rings-uncrossed es sd qs m) (found es sd qs rs m l) r q h j ir iq t u
