-- The edges at the places passed.
use Rattle.std.proofs.Common.{List, take, ◌≡◌}
use Rattle.osm_geom.specs.declared.edge.Edge.{Edge}
use Rattle.osm_rings.specs.Packed.{ArePacked}
use Rattle.osm_rings.specs.Pieces.{edges_at}
use Rattle.osm_rings.proofs.packed.unpacked_at.Given as goal

abbrev pub invariant-loop-place : goal.invariant-loop-place
invariant-loop-place l = (es : List Edge) → ArePacked es l.all → l.found.items ≡ edges_at es (take l.place-index l.places)
