use Rattle.std.proofs.Common.{take}
use Rattle.coast_split.specs.Half.{ArePortions}
use Rattle.coast_split.proofs.halves.portions.Given as goal

abbrev pub invariant-loop-e : goal.invariant-loop-e
invariant-loop-e l = ArePortions l.cut l.side (take l.e-index l.edges) l.portions
