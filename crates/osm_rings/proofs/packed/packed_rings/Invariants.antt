-- The rings of the walks passed, and the places of those left.
use Rattle.std.proofs.Common.{List, drop, map, take, ◌≡◌}
use Rattle.std.specs.List.{concat}
use Rattle.osm_geom.specs.declared.edge.Edge.{Edge}
use Rattle.osm_rings.specs.Packed.{ArePacked}
use Rattle.osm_rings.specs.Pieces.{AreRingsAlong, edges_at}
use Rattle.osm_rings.proofs.packed.packed_rings.Given as goal

abbrev pub invariant-loop-size : goal.invariant-loop-size
invariant-loop-size l = (es : List Edge) → ArePacked es l.all → (are : AreRingsAlong es l.places l.sizes) → (l.left ≡ concat (drop l.size-index are.walks)) × (l.rings ≡ map (edges_at es) (take l.size-index are.walks))
