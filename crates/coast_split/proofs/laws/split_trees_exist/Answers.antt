use Rattle.coast_split.proofs.Trees.{tree-of}
use Rattle.coast_split.proofs.laws.split_trees_exist.Goals as goal

pub returns : goal.returns
returns c = λ m o es. tree-of c.halves_exist.ensures m o es
