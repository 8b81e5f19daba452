use Rattle.plane_lists.proofs.rounded_laws.points_count_nothing.Goals as goal
use Rattle.plane_lists.proofs.Rounded.PointEdges.{steps-balanced, steps-crossed, steps-wind}

pub returns-clause-winding : goal.returns-clause-winding
returns-clause-winding c = steps-wind

pub returns-clause-crossed : goal.returns-clause-crossed
returns-clause-crossed c = steps-crossed

pub returns-clause-balanced : goal.returns-clause-balanced
returns-clause-balanced c = steps-balanced
