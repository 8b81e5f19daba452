use Rattle.std.proofs.Common.{◌≡◌, take}
use Rattle.coast_join.specs.Closings.{is_antarctic, places_where}
use Rattle.coast_join.proofs.closing.antarctica.Given as goal

abbrev pub invariant-loop-place : goal.invariant-loop-place
invariant-loop-place l = l.places ≡ places_where is_antarctic (take l.place l.chains)
