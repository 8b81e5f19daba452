-- The cycles of the numbers passed.
use Rattle.orbits.specs.Orbits.{total_map}
use Rattle.orbits.proofs.PassSteps.{AreFoundAlong}
use Rattle.orbits.proofs.passing.cycles.Given as goal

abbrev pub invariant-loop-place : goal.invariant-loop-place
invariant-loop-place l = AreFoundAlong (total_map l.next) l.place l.passed.items l.places.items l.sizes.items
