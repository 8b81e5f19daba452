use Rattle.std.proofs.Common.{◌≡◌, ◌++◌, take}
use Rattle.coast_join.proofs.chaining.add_front.Given as goal

abbrev pub invariant-loop-loc : goal.invariant-loop-loc
invariant-loop-loc l = l.path ≡ l.initial.path ++ take l.loc-index l.loc-items
