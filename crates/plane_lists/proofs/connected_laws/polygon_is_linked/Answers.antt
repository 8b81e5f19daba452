use Rattle.plane_lists.proofs.connected_laws.polygon_is_linked.Goals as goal
use Rattle.plane_lists.proofs.Connected.AcrossPolygons.{linked_one}
use Rattle.plane_lists.proofs.Connected.LinkedPolygons.{polygon_linked}

pub returns-clause-within : goal.returns-clause-within
returns-clause-within c = polygon_linked

pub returns-clause-one : goal.returns-clause-one
returns-clause-one c = λ es sd rs l gs k g i e f j. linked_one es sd rs l gs k g i e f j
