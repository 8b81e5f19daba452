use Rattle.plane_lists.proofs.one_list_laws.closed_parts_share_one_point.Goals as goal
use Rattle.plane_lists.proofs.OneRingList.OneRingList.{no-turns}
use Rattle.plane_lists.proofs.OneRingList.Returns.{share_one_point}
use Rattle.plane_lists.proofs.OneRingList.Sees.{walk_sees}

pub returns-clause-sees : goal.returns-clause-sees
returns-clause-sees c = λ es sd w k rs sub pl even e f i j. walk_sees es sd rs sub pl even w k e f i j

pub returns-clause-one_point : goal.returns-clause-one_point
returns-clause-one_point c = share_one_point

pub returns-clause-no_turns : goal.returns-clause-no_turns
returns-clause-no_turns c = no-turns
