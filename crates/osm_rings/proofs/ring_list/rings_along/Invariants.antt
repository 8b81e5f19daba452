-- The rings of the walks passed, and the places of those left.
use Rattle.std.proofs.Common.{drop, map, take, ◌≡◌}
use Rattle.std.specs.List.{concat}
use Rattle.osm_rings.specs.Pieces.{AreRingsAlong, edges_at}
use Rattle.osm_rings.proofs.ring_list.rings_along.Given as goal

abbrev pub invariant-loop-size : goal.invariant-loop-size
invariant-loop-size l = (are : AreRingsAlong l.edges l.places l.sizes) → (l.left ≡ concat (drop l.size-index are.walks)) × (l.rings ≡ map (edges_at l.edges) (take l.size-index are.walks))
