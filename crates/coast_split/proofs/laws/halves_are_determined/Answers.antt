use Rattle.coast_split.proofs.OneHalf.{one-half, one-tree}
use Rattle.coast_split.proofs.Sizes.{high-shrinks, low-shrinks}
use Rattle.coast_split.proofs.laws.halves_are_determined.Goals as goal

pub returns-clause-half : goal.returns-clause-half
returns-clause-half c = one-half

pub returns-clause-tree : goal.returns-clause-tree
returns-clause-tree c = one-tree

pub returns-clause-shrinks : goal.returns-clause-shrinks
returns-clause-shrinks c = λ m o es h hs. (low-shrinks m o es h hs, high-shrinks m o es h hs)
