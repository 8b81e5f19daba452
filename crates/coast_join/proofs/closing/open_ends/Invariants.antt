use Rattle.std.proofs.Common.{◌≡◌, take}
use Rattle.coast_join.specs.Closings.{open_ends}
use Rattle.coast_join.proofs.closing.open_ends.Given as goal

abbrev pub invariant-loop-place : goal.invariant-loop-place
invariant-loop-place l = l.ends.items ≡ open_ends (take l.place l.chains)
