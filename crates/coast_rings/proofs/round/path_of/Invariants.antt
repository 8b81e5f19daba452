use Rattle.std.proofs.Common.{◌≡◌, take}
use Rattle.coast_rings.proofs.round.path_of.Given as goal

abbrev pub invariant-loop-loc : goal.invariant-loop-loc
invariant-loop-loc l = l.path ≡ take l.loc-index l.locs
