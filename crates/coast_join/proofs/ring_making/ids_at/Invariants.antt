use Rattle.std.proofs.Common.{◌≡◌, take}
use Rattle.coast_join.specs.Joined.{chains_at, ways_of}
use Rattle.coast_join.proofs.ring_making.ids_at.Given as goal

abbrev pub invariant-loop-place : goal.invariant-loop-place
invariant-loop-place l = l.ids ≡ ways_of (chains_at l.chains (take l.place-index l.places))
