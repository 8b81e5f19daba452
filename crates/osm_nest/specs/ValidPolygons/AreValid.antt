-- Valid polygons in the sense of Simple Features, whose points may have fractions.
use Rattle.std.specs.Prelude.{List, map, ℕ}
use Rattle.lists.specs.Member.{In}
use Rattle.osm_nest.specs.declared.polygon.Polygon.{Polygon}
use Rattle.osm_nest.specs.Polygons.{edges_in, polygon_times}
use Rattle.osm_geom.specs.InPlane.Multiple.{IsCommon}
use Rattle.plane_lists.specs.Valid.Valid.{IsValidMultiPolygon}

-- multiplied by a number that makes all of their points whole, they are together a valid MultiPolygon
pub record AreValid (polygons : List Polygon) : Type 0 where
  pub multiple : ℕ
  pub common : (polygon : Polygon) → In polygon polygons → IsCommon multiple (edges_in polygon)
  pub valid : IsValidMultiPolygon (map (polygon_times multiple) polygons)
