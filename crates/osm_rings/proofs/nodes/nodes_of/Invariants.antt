-- The numbers and marks for the departures passed.
use Rattle.std.proofs.Common.{length, ◌≡◌}
use Rattle.osm_rings.proofs.Starts.{AreNumbered}
use Rattle.osm_rings.proofs.SharedNodes.{AreMarkedUpTo}
use Rattle.osm_rings.proofs.nodes.nodes_of.Given as goal

abbrev pub invariant-loop-place : goal.invariant-loop-place
invariant-loop-place l = record {
  sized : length l.numbers.items ≡ length l.edges;
  marked : length l.shared.items ≡ length l.edges;
  numbered : AreNumbered l.departures l.place l.number l.numbers.items;
  own : AreMarkedUpTo l.departures l.place l.shared.items;
}
