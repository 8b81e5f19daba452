use Rattle.coast_split.specs.Waiting.{AreWaiting, lists_in}
use Rattle.coast_split.proofs.LeafCounts.{HaveCome}
use Rattle.coast_split.proofs.counting.count_waiting.Given as goal

abbrev pub invariant-loop-count : goal.invariant-loop-count
invariant-loop-count l =
    AreWaiting l.whole l.waiting.items
    × HaveCome l.settings.most_points l.settings.overlap (lists_in l.whole l.fn.waiting.items) l.count (lists_in l.whole l.waiting.items)
