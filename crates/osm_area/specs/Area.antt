-- The area of a candidate without problems.
use Rattle.std.specs.Prelude.{◌≡◌, ◌≢◌, ◌%◌, List, [], ℤ}
use Rattle.plane.specs.Sign.{Plus, sign}
use Rattle.plane.specs.Vector.{Vector, east}
use Rattle.plane_lists.specs.Lists.EdgeList.{crossing_count}
use Rattle.plane_lists.specs.Lists.ScaledEdges.{scaled_edges}
use Rattle.osm_geom.specs.InPlane.Sided.{count_at}
use Rattle.osm_lattice.specs.declared.seg.Seg.{Seg}
use Rattle.osm_geom.specs.declared.edge.Edge.{Edge}
use Rattle.osm_sides.specs.Directions.{AreDirected}
use Rattle.osm_sides.specs.Survivors.{plane_edges_of}
use Rattle.osm_nest.specs.declared.polygon.Polygon.{Polygon}
use Rattle.osm_nest.specs.Nested.{ArePolygons}
use Rattle.osm_nest.specs.Polygons.{rings_of}
use Rattle.osm_nest.specs.RingLists.{all_edges}

-- the segments, each with its odd side on the left, make these polygons, at least one
pub record IsArea (survivors : List Seg) (polygons : List Polygon) : Type 0 where
  pub edges : List Edge
  pub directed : AreDirected survivors edges
  pub made : ArePolygons edges polygons
  pub some : polygons ≢ []

-- at every point p.x / q, p.y / q the rings of the polygons together have the parity of the segments
abbrev pub HaveParityOf : List Seg → List Polygon → Type 0
HaveParityOf survivors polygons =
    (q : ℤ) → sign q ≡ Plus → (p : Vector) → count_at q p (all_edges (rings_of polygons)) % 2 ≡ crossing_count east p (scaled_edges q (plane_edges_of survivors)) % 2
