use Rattle.std.proofs.Common.{◌≡◌, false, take}
use Rattle.std.specs.List.{list_any}
use Rattle.coast_join.specs.Closings.{is_antarctic}
use Rattle.coast_join.specs.Joined.{chains_at}
use Rattle.coast_join.proofs.ring_making.any_antarctic.Given as goal

abbrev pub invariant-loop-place : goal.invariant-loop-place
invariant-loop-place l = list_any is_antarctic (chains_at l.chains (take l.place-index l.places)) ≡ false
