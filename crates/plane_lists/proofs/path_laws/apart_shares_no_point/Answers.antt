use Rattle.plane_lists.proofs.path_laws.apart_shares_no_point.Goals as goal
use Rattle.plane_lists.proofs.Paths.SharedPoints.{apart-exactly}

pub returns : goal.returns
returns c = apart-exactly
