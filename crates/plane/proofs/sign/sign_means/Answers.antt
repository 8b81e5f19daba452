use Rattle.plane.proofs.sign.sign_means.Goals as goal
use Rattle.plane.proofs.Signs.{minus-is, null-is, plus-is}

pub returns-clause-plus : goal.returns-clause-plus
returns-clause-plus c = plus-is

pub returns-clause-minus : goal.returns-clause-minus
returns-clause-minus c = minus-is

pub returns-clause-null : goal.returns-clause-null
returns-clause-null c = null-is
