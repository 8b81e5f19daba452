use Rattle.std.proofs.Common.{take}
use Rattle.std.specs.BTreeMap.{get}
use Rattle.coast_join.specs.Links.{key_cmp}
use Rattle.coast_join.proofs.Numbering.{ArePlaces}
use Rattle.coast_join.proofs.links.places.Given as goal

abbrev pub invariant-loop-place : goal.invariant-loop-place
invariant-loop-place l = ArePlaces (take l.place l.locs) (get key_cmp l.places)
