-- The open orbits below the place are marked.
use Rattle.orbits.specs.Marks.{AreChained}
use Rattle.orbits.proofs.orbit.chained.Given as goal

abbrev pub invariant-loop-place : goal.invariant-loop-place
invariant-loop-place l = AreChained l.next l.starts l.place l.chained.items
