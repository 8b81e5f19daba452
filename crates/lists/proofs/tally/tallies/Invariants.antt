use Rattle.std.proofs.Common.{take}
use Rattle.lists.specs.Tallied.{IsTallied}
use Rattle.lists.proofs.tally.tallies.Given as goal

abbrev pub invariant-loop-item : goal.invariant-loop-item
invariant-loop-item g l = IsTallied g.T.Ord.cmp (take l.item-index l.item-items) l.tallies.items
