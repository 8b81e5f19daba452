use Rattle.std.proofs.Common.{◌≡◌, take}
use Rattle.coast_join.specs.Joined.{chains_at, locations_along}
use Rattle.coast_join.proofs.ring_making.paths_at.Given as goal

abbrev pub invariant-loop-place : goal.invariant-loop-place
invariant-loop-place l = l.locs.items ≡ locations_along (chains_at l.chains (take l.place-index l.places))
