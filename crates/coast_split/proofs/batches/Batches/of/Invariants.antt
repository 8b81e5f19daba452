use Rattle.std.proofs.Common.{length, take, ◌-◌, ◌≡◌, ◌≤◌}
use Rattle.coast_split.specs.Batches.{AreBatches, batched_edges}
use Rattle.coast_split.proofs.batches.Batches.of.Given as goal

abbrev pub invariant-loop-from : goal.invariant-loop-from
invariant-loop-from l = AreBatches l.whole l.list × (batched_edges l.whole l.list ≡ take l.from l.whole) × (l.from ≤ length l.whole)

abbrev pub decreases-loop-from : goal.decreases-loop-from
decreases-loop-from l = length l.whole - l.from
