-- The print of a leaf, near its border and away from it.
use Rattle.std.specs.Prelude.{All, List, ℤ, ◌%◌, ◌≡◌}
use Rattle.std.specs.List.{count_by}
use Rattle.lists.specs.Member.{In}
use Rattle.coast_split.specs.declared.leaves.Leaf.{Leaf}
use Rattle.osm_geom.specs.declared.edge.Edge.{Edge}
use Rattle.osm_lattice.specs.declared.loc.Loc.{Loc}
use Rattle.osm_nest.specs.Cover.{covers_at}
use Rattle.osm_nest.specs.Polygons.{edges_in, rings_in}
use Rattle.osm_nest.specs.declared.polygon.Polygon.{Polygon}
use Rattle.osm_text.specs.Rounded.{rounded_ring}
use Rattle.plane.specs.RayCrossing.{IsOffEdge}
use Rattle.plane.specs.Sign.{Plus, sign}
use Rattle.plane.specs.Vector.{Vector}
use Rattle.osm_geom.specs.InPlane.Multiple.{product_of_denominators}
use Rattle.osm_geom.specs.InPlane.Sided.{count_at}
use Rattle.plane_lists.specs.Lists.ScaledEdges.{scaled_edges}
use Rattle.one_output.specs.RoundedPieces.Near.{AreBeyondHalf, IsWithinHalfUnit}
use Rattle.one_output.specs.RoundedPieces.Printed.{edges_round, print_covers, printed_rings}

-- a location is printed for a point of the ring, at most half a unit away
pub record IsPrintedFor (ring : List Edge) (at : Loc) : Type 0 where
  pub edge : Edge
  pub member : In edge ring
  pub near : IsWithinHalfUnit edge.from at

-- a printed ring is what is left of one of the polygon's rings, and each of its locations is printed for a point of that
-- ring
pub record IsPrintedRing (polygon : Polygon) (printed : List Loc) : Type 0 where
  pub ring : List Edge
  pub member : In ring (rings_in polygon)
  pub left : printed ≡ rounded_ring ring
  pub near : (at : Loc) → In at printed → IsPrintedFor ring at

-- The point p.x / q, p.y / q is on no printed line of the polygon, and the print covers it exactly if the polygon does.
pub record IsPrintedRight (polygon : Polygon) (q : ℤ) (p : Vector) : Type 0 where
  pub off : All (λ (printed : List Loc). All (IsOffEdge p) (scaled_edges q (edges_round printed))) (printed_rings polygon)
  pub covers : print_covers q p polygon ≡ covers_at q p polygon

-- A leaf with these edges and these polygons is printed right, except within half a unit:
-- - Each location is at most half a unit away from the point that it is printed for.
-- - The print of a polygon is right at each point with rational coordinates whose closed unit square meets no edge of the
--   polygon.
-- - If that square meets no edge of the leaf, the print of one polygon covers the point if the leaf does, and otherwise the
--   print of none.
pub record ArePrintedRight (edges : List Edge) (polygons : List Polygon) : Type 0 where
  pub near : All (λ (polygon : Polygon). All (IsPrintedRing polygon) (printed_rings polygon)) polygons
  pub each :
      (polygon : Polygon) → In polygon polygons → (q : ℤ) → sign q ≡ Plus → (p : Vector) →
      AreBeyondHalf (product_of_denominators edges) q p (edges_in polygon) → IsPrintedRight polygon q p
  pub together :
      (q : ℤ) → sign q ≡ Plus → (p : Vector) → AreBeyondHalf (product_of_denominators edges) q p edges →
      count_by (print_covers q p) polygons ≡ count_at q p edges % 2

-- the closed unit square round the point p.x / q, p.y / q meets no edge of the leaf
abbrev pub IsBeyondLeaf : ℤ → Vector → Leaf → Type 0
IsBeyondLeaf q p leaf = AreBeyondHalf (product_of_denominators leaf.edges) q p leaf.edges
