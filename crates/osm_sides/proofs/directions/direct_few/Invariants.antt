use Rattle.osm_sides.specs.Following.{KnownDirectionsAreRight}
use Rattle.osm_sides.specs.Sweep.{AreDirectedTo}
use Rattle.osm_sides.proofs.directions.direct_few.Given as goal

abbrev pub invariant-loop-place : goal.invariant-loop-place
invariant-loop-place l = KnownDirectionsAreRight l.segs l.known × AreDirectedTo l.segs l.place l.edges.items
