-- The edges passed are packed.
use Rattle.osm_rings.specs.Packed.{AreFirstPacked}
use Rattle.osm_rings.proofs.packed.all_packed.Given as goal

abbrev pub invariant-loop-place : goal.invariant-loop-place
invariant-loop-place l = AreFirstPacked l.place l.edges l.all.items
