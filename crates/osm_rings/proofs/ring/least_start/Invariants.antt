-- The least start of those passed.
use Rattle.osm_rings.proofs.LeastStarts.{IsLeastUpTo}
use Rattle.osm_rings.proofs.ring.least_start.Given as goal

abbrev pub invariant-loop-place : goal.invariant-loop-place
invariant-loop-place l = IsLeastUpTo l.edges l.place l.least
