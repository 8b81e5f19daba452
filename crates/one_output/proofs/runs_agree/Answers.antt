use Rattle.one_output.proofs.runs_agree.Goals as goal
use Rattle.one_output.proofs.RunOne.{runs-agree, runs-dont-part}

pub returns-clause-same : goal.returns-clause-same
returns-clause-same c = runs-agree c.whole_is_one.ensures.whole

pub returns-clause-fronts : goal.returns-clause-fronts
returns-clause-fronts c = runs-dont-part c.whole_is_one.ensures.whole
