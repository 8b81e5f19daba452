-- What was found among the segments passed.
use Rattle.osm_sides.specs.Following.{AreOthersUpTo}
use Rattle.osm_sides.proofs.few.following.sole_other.Given as goal

abbrev pub invariant-loop-other : goal.invariant-loop-other
invariant-loop-other l = AreOthersUpTo l.segs l.place l.p l.other l.found
