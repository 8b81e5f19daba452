use Rattle.plane_lists.proofs.rounded_laws.factor_rounds_alike.Goals as goal
use Rattle.plane_lists.proofs.Rounded.Factors.{factor-rounds}

pub returns : goal.returns
returns c = factor-rounds
