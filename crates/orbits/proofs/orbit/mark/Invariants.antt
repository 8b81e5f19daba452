use Rattle.std.proofs.Common.{take}
use Rattle.orbits.specs.OrbitSteps.{AreMarkedAlso}
use Rattle.orbits.proofs.orbit.mark.Given as goal

abbrev pub invariant-loop-place : goal.invariant-loop-place
invariant-loop-place l = AreMarkedAlso l.fn.marks (take l.place-index l.places) l.marks
