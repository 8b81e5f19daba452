use Rattle.plane_lists.proofs.connected_laws.polygon_has_whole_walks.Goals as goal
use Rattle.plane_lists.proofs.Connected.OneOuterRing.{one_outer_ring}
use Rattle.plane_lists.proofs.Connected.WholeWalks.{rings_are, successor_in, successor_of, whole_walks}

pub returns-clause-outer : goal.returns-clause-outer
returns-clause-outer c = one_outer_ring

pub returns-clause-walks : goal.returns-clause-walks
returns-clause-walks c = λ es sd rs l gs k g i w m e f ie jf j. whole_walks es sd rs l gs k g i w m e f ie jf j

pub returns-clause-successors : goal.returns-clause-successors
returns-clause-successors c = λ es sd rs l gs k g i e f j. (successor_in es sd rs l gs k g i e f j, successor_of es sd rs l gs k g i e f j)

pub returns-clause-rings : goal.returns-clause-rings
returns-clause-rings c = λ es sd rs l gs k g i. rings_are es sd rs l gs k g i
