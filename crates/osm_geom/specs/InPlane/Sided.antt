-- Counts at points, and sided lists.
use Rattle.std.specs.Prelude.{List, ℕ, pos, ℤ}
use Rattle.plane.specs.Scale.{scaled_point}
use Rattle.plane.specs.Vector.{Vector, east}
use Rattle.plane_lists.specs.Lists.EdgeList.{crossing_count, winding_number}
use Rattle.plane_lists.specs.Lists.ScaledEdges.{scaled_edges}
use Rattle.plane_lists.specs.Lists.Sided as winding
use Rattle.osm_geom.specs.declared.edge.Edge.{Edge}
use Rattle.osm_geom.specs.InPlane.Multiple.{product_of_denominators, whole_edges}

-- how many edges span the height of the point p.x / q, p.y / q and have it on their left
abbrev pub count_at : ℤ → Vector → List Edge → ℕ
count_at q p es = crossing_count east (scaled_point (pos (product_of_denominators es)) p) (scaled_edges q (whole_edges es))

-- how many of them run up, less how many run down
abbrev pub signed_count_at : ℤ → Vector → List Edge → ℤ
signed_count_at q p es = winding_number east (scaled_point (pos (product_of_denominators es)) p) (scaled_edges q (whole_edges es))

-- No two edges share a point that isn't an end of both. As many edges leave each point as enter it.
-- The signed count is 0 or 1 at every point off the list.
abbrev pub IsSided : List Edge → Type 0
IsSided es = winding.IsSided (whole_edges es)
