-- Areas that are valid in the sense of Simple Features.
use Rattle.std.specs.Prelude.{All, List, map}
use Rattle.osm_geom.specs.WholeSegment.{IsWholeSegment}
use Rattle.osm_nest.specs.declared.polygon.Polygon.{Polygon}
use Rattle.osm_nest.specs.Polygons.{polygon_times, rings_of}
use Rattle.plane_lists.specs.Valid.Valid.{IsValidMultiPolygon}

-- Each ring runs along whole segments. So all coordinates are whole units, and nothing is rounded when they are written.
-- In these units the polygons are a valid MultiPolygon.
pub record IsValidArea (polygons : List Polygon) : Type 0 where
  pub whole : All (All IsWholeSegment) (rings_of polygons)
  pub valid : IsValidMultiPolygon (map (polygon_times 1) polygons)
