-- What polygons cover.
use Rattle.std.specs.Prelude.{All, Bool, List, not, ℤ, ◌%◌, ◌≡◌}
use Rattle.std.specs.List.{count_by}
use Rattle.plane.specs.Sign.{Plus, sign}
use Rattle.plane.specs.Vector.{Vector}
use Rattle.plane_lists.specs.Lists.Parity.{is_even}
use Rattle.osm_geom.specs.declared.edge.Edge.{Edge}
use Rattle.osm_nest.specs.declared.polygon.Polygon.{Polygon}
use Rattle.osm_nest.specs.Polygons.{edges_in}
use Rattle.osm_nest.specs.RingLists.{all_edges}
use Rattle.osm_geom.specs.InPlane.Sided.{IsSided, count_at}

-- the polygon covers the point p.x / q, p.y / q: its parity there is odd
abbrev pub covers_at : ℤ → Vector → Polygon → Bool
covers_at q p polygon = not (is_even (count_at q p (edges_in polygon)))

-- the edges of each polygon are sided
abbrev pub AreSided : List Polygon → Type 0
AreSided polygons = All (λ (polygon : Polygon). IsSided (edges_in polygon)) polygons

-- exactly one polygon covers a point at which the parity of the rings is odd, and none covers one at which it is even
abbrev pub CoverAsRings : List (List Edge) → List Polygon → Type 0
CoverAsRings rs polygons =
    (q : ℤ) → sign q ≡ Plus → (p : Vector) → count_by (covers_at q p) polygons ≡ count_at q p (all_edges rs) % 2
