use Rattle.plane_lists.proofs.path_laws.line_stays_inside.Goals as goal
use Rattle.plane_lists.proofs.Paths.Winds.{line-inside}

pub returns : goal.returns
returns c = line-inside
