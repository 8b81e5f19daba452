-- The departures of the edges passed.
use Rattle.osm_rings.specs.Departures.{AreInTwoLists}
use Rattle.osm_rings.proofs.departures.list_departures.Given as goal

abbrev pub invariant-loop-place : goal.invariant-loop-place
invariant-loop-place l = AreInTwoLists l.edges l.place l.up.items l.down.items
