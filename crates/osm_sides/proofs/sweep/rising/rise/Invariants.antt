-- The sweep stands at no height above the location.
use Rattle.std.proofs.Common.{false, length, ◌-◌, ◌≡◌}
use lib.Signed.{lt_z}
use Rattle.osm_sides.specs.Sweep.{IsSweptFrom}
use Rattle.osm_sides.proofs.sweep.rising.rise.Given as goal

abbrev pub invariant-loop-begun : goal.invariant-loop-begun
invariant-loop-begun l = (swept : IsSweptFrom l.segs l.ends l.begun l.left l.status) × (lt_z l.at.y swept.height.y ≡ false)

abbrev pub decreases-loop-begun : goal.decreases-loop-begun
decreases-loop-begun l = length l.segs - l.begun
