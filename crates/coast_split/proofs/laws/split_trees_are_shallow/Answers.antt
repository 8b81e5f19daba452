use Rattle.coast_split.proofs.Depths.{high-narrower, low-narrower, tree-shallow}
use Rattle.coast_split.proofs.laws.split_trees_are_shallow.Goals as goal

pub returns-clause-narrows : goal.returns-clause-narrows
returns-clause-narrows c = λ m o es h hs. (low-narrower m o es h hs, high-narrower m o es h hs)

pub returns-clause-depth : goal.returns-clause-depth
returns-clause-depth c = tree-shallow
