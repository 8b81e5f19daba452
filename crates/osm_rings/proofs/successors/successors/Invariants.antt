-- The successors of the edges passed.
use Rattle.std.proofs.Common.{◌≡◌, ◌<◌, ℕ, length}
use Rattle.orbits.specs.Orbits.{after, total_map}
use Rattle.osm_geom.specs.InPlane.Multiple.{whole_edges}
use Rattle.osm_rings.specs.Numbered.{edge_at}
use Rattle.osm_rings.specs.Departures.{IsFirstMet}
use Rattle.osm_rings.proofs.successors.successors.Given as goal

abbrev pub invariant-loop-edge : goal.invariant-loop-edge
invariant-loop-edge l = record {
  sized : length l.next.items ≡ l.edge-index;
  first : (i : ℕ) → i < l.edge-index → IsFirstMet (whole_edges l.edges) (edge_at (whole_edges l.edges) i) (after (total_map l.next.items) i);
}
