use Rattle.coast_split.proofs.HalvesExist.{half_exists}
use Rattle.coast_split.proofs.laws.halves_exist.Goals as goal

pub returns : goal.returns
returns c = λ cut s es. half_exists cut s es
