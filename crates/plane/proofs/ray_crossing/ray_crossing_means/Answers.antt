use Rattle.plane.proofs.ray_crossing.ray_crossing_means.Goals as goal
use Rattle.plane.proofs.RayCrossings.{down_crossing-is, rightward_crossing, up_crossing-is}

pub returns-clause-up : goal.returns-clause-up
returns-clause-up c = up_crossing-is

pub returns-clause-down : goal.returns-clause-down
returns-clause-down c = down_crossing-is

pub returns-clause-rightward : goal.returns-clause-rightward
returns-clause-rightward c = rightward_crossing
