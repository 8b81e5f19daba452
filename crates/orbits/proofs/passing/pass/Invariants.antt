-- The numbers passed.
use Rattle.std.proofs.Common.{◌+◌, ◌-◌, length}
use Rattle.orbits.specs.Orbits.{total_map}
use Rattle.orbits.proofs.PassSteps.{IsPassing}
use Rattle.orbits.proofs.passing.pass.Given as goal

abbrev pub invariant-loop-place : goal.invariant-loop-place
invariant-loop-place l = IsPassing (total_map l.fn.next) l.fn.from l.place l.fn.places.items l.places.items l.fn.passed l.passed

abbrev pub decreases-loop-place : goal.decreases-loop-place
decreases-loop-place l = length l.fn.places.items + length l.fn.next - length l.places.items
