use Rattle.std.proofs.Common.{◌≡◌, take}
use Rattle.std.specs.BTreeSet.{contains}
use Rattle.std.specs.List.{list_any}
use Rattle.lists.specs.Once.{each_once}
use Rattle.lists.proofs.once.each_once.Given as goal

-- those passed are there once each, and these have been seen
abbrev pub invariant-loop-item : goal.invariant-loop-item
invariant-loop-item g l = record {
  once : l.once.items ≡ each_once g.T.PartialEq.eq (take l.item-index l.items);
  seen : (x : g.row.T.Denot) → contains g.T.Ord.cmp l.seen x ≡ list_any (g.T.PartialEq.eq x) l.once.items;
}
