use Rattle.std.proofs.Common.{Bool, take}
use Rattle.std.specs.BTreeSet.{contains}
use Rattle.std.specs.Ordering.{int_cmp}
use Rattle.osm_lattice.specs.Seg.{seg_cmp}
use Rattle.coast_rings.specs.declared.ring.CoastRing.{CoastRing}
use Rattle.coast_sides.specs.Choice.{KeepsUnbeaten}
use Rattle.coast_sides.specs.ChoiceSteps.{knows, rings_at}
use Rattle.coast_sides.proofs.KeptRings.{AreHeld}
use Rattle.coast_sides.proofs.choosing.names_along.Given as goal

abbrev pub invariant-loop-place : goal.invariant-loop-place
invariant-loop-place l =
    (is_kept : CoastRing → Bool) → KeepsUnbeaten l.rings is_kept
    → AreHeld l.rings (rings_at l.rings (take l.place-index l.places)) is_kept (contains int_cmp l.names) (knows l.foes) (contains seg_cmp l.blocked)
