use Rattle.std.proofs.Common.{unsigned_abs, ◌∷◌}
use Rattle.coast_split.specs.Batches.{batched_edges}
use Rattle.coast_split.specs.SplitTree.{size_of}
use Rattle.coast_split.specs.Splitting.{HaveSameLeaves}
use Rattle.coast_split.specs.Waiting.{AreWaiting, IsWaiting, lists_in}
use Rattle.coast_split.proofs.in_turn.next_leaf.Given as goal

abbrev pub invariant-loop-middle : goal.invariant-loop-middle
invariant-loop-middle l =
    AreWaiting l.whole l.waiting.items × IsWaiting l.whole l.list
    × HaveSameLeaves l.settings.most_points l.settings.overlap (lists_in l.whole l.fn.waiting.items) (batched_edges l.whole l.list ∷ lists_in l.whole l.waiting.items)

abbrev pub decreases-loop-middle : goal.decreases-loop-middle
decreases-loop-middle l = unsigned_abs (size_of (batched_edges l.whole l.list))
