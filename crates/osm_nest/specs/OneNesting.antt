-- The law that polygons are determined, as a statement.
use Rattle.std.specs.Prelude.{List, ◌≡◌}
use Rattle.osm_geom.specs.declared.edge.Edge.{Edge}
use Rattle.osm_nest.specs.declared.polygon.Polygon.{Polygon}
use Rattle.osm_nest.specs.Nested.{AreNested}
use Rattle.osm_rings.specs.RingList.{AreRingsOf}
use Rattle.osm_geom.specs.InPlane.Sided.{IsSided}

-- a sided list has at most one list of polygons, with rings that begin at their least nodes and all in order
abbrev pub PolygonsAreOne : Type 0
PolygonsAreOne =
    (es : List Edge) → IsSided es → (rs qs : List (List Edge)) → AreRingsOf es rs → AreRingsOf es qs →
    (m n : List Polygon) → AreNested rs m → AreNested qs n → m ≡ n
