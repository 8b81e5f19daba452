-- The polygons of nested rings are valid, as statements.
use Rattle.std.specs.Prelude.{List, map}
use Rattle.osm_geom.specs.declared.edge.Edge.{Edge}
use Rattle.osm_nest.specs.declared.polygon.Polygon.{Polygon}
use Rattle.osm_nest.specs.Nested.{AreNested}
use Rattle.osm_nest.specs.Polygons.{polygon_times}
use Rattle.osm_rings.specs.RingList.{AreRingsOf}
use Rattle.osm_geom.specs.InPlane.Multiple.{product_of_denominators}
use Rattle.osm_geom.specs.InPlane.Sided.{IsSided}
use Rattle.plane_lists.specs.Valid.Valid.{IsValidMultiPolygon}
use Rattle.osm_nest.specs.ValidPolygons.AreValid.{AreValid}

-- They are together a valid MultiPolygon, in the plane multiplied by the common denominator of the list that the rings come from.
abbrev pub NestedPolygonsAreValid : Type 0
NestedPolygonsAreValid =
    (es : List Edge) → IsSided es → (rs : List (List Edge)) → AreRingsOf es rs → (nested : List Polygon) →
    AreNested rs nested → IsValidMultiPolygon (map (polygon_times (product_of_denominators es)) nested)

-- that number makes all points of the polygons whole
abbrev pub NestedAreValid : Type 0
NestedAreValid =
    (es : List Edge) → IsSided es → (rs : List (List Edge)) → AreRingsOf es rs → (nested : List Polygon) →
    AreNested rs nested → AreValid nested
