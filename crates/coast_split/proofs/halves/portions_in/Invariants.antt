use Rattle.std.proofs.Common.{take}
use Rattle.coast_split.proofs.Batched.{HavePortions}
use Rattle.coast_split.proofs.halves.portions_in.Given as goal

abbrev pub invariant-loop-batch : goal.invariant-loop-batch
invariant-loop-batch l = HavePortions l.whole l.cut l.side (take l.batch-index l.batch-items) l.portions.batches l.portions.ends.items
