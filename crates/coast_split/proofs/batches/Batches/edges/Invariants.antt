use Rattle.std.proofs.Common.{take, ◌≡◌}
use Rattle.coast_split.specs.Batches.{edges_of_batches}
use Rattle.coast_split.proofs.batches.Batches.edges.Given as goal

abbrev pub invariant-loop-batch : goal.invariant-loop-batch
invariant-loop-batch l = l.edges.items ≡ edges_of_batches l.whole (take l.batch-index l.batch-items)
