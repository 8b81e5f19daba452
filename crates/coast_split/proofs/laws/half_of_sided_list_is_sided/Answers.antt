use Rattle.coast_split.proofs.SidedHalves.{half-sided}
use Rattle.coast_split.proofs.laws.half_of_sided_list_is_sided.Goals as goal

pub returns : goal.returns
returns c = λ cut s es hs h sd. half-sided cut s es hs h sd
