-- What is known is right, and so is the direction that was come to.
use Rattle.osm_sides.specs.Following.{IsDirected, KnownDirectionsAreRight}
use Rattle.osm_sides.proofs.few.following.follow.Given as goal

abbrev pub invariant-loop : goal.invariant-loop
invariant-loop l = IsDirected l.segs l.place l.up × KnownDirectionsAreRight l.segs l.known
