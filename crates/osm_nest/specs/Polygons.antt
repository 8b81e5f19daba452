-- Polygons: an outer ring and the inner rings under it.
use Rattle.std.specs.Prelude.{List, ◌∷◌, map, ℕ}
use Rattle.std.specs.List.{flat_map}
use Rattle.plane_lists.specs.Rings.Polygon as nesting
use Rattle.osm_geom.specs.declared.edge.Edge.{Edge}
use Rattle.osm_nest.specs.declared.polygon.Polygon.{Polygon}
use Rattle.osm_nest.specs.RingLists.{all_edges}
use Rattle.osm_geom.specs.InPlane.Multiple.{edges_times}

-- the rings of a polygon, the outer one first
abbrev pub rings_in : Polygon → List (List Edge)
rings_in polygon = polygon.outer ∷ polygon.inners

-- the rings of polygons, one polygon after the other
abbrev pub rings_of : List Polygon → List (List Edge)
rings_of polygons = flat_map rings_in polygons

-- all edges of a polygon
abbrev pub edges_in : Polygon → List Edge
edges_in polygon = all_edges (rings_in polygon)

-- the polygon in the plane multiplied by k
abbrev pub polygon_times : ℕ → Polygon → nesting.Polygon
polygon_times k polygon = record { outer = edges_times k polygon.outer; inner = map (edges_times k) polygon.inners }
