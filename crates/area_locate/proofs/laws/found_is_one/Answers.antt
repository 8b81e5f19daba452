-- By induction over the candidates and the points.
use Rattle.area_locate.proofs.Founds.{found_is_one}
use Rattle.area_locate.proofs.laws.found_is_one.Goals as goal

pub returns : goal.returns
returns c = found_is_one
