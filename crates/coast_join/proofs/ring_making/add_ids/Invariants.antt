use Rattle.std.proofs.Common.{◌≡◌, ◌++◌, take}
use Rattle.coast_join.proofs.ring_making.add_ids.Given as goal

abbrev pub invariant-loop-id : goal.invariant-loop-id
invariant-loop-id l = l.ids ≡ l.initial.ids ++ take l.id-index l.more
