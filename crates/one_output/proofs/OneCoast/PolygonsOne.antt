-- The polygons of land and of water are one list each.
use Rattle.std.proofs.Common.{Bool, List, [], false, subst, sym, true, ◌∙◌, ◌≡◌}
use Rattle.std.proofs.lemmas.List.Elements.{All-nil}
use Rattle.osm_geom.specs.declared.edge.Edge.{Edge}
use Rattle.osm_nest.specs.Cover.{AreSided}
use Rattle.osm_nest.specs.Laws.{NestedAreSided, RingsMayBeNested}
use Rattle.osm_nest.specs.Polygons.{edges_in}
use Rattle.osm_nest.specs.declared.polygon.Polygon.{Polygon}
use Rattle.osm_geom.specs.InPlane.Sided.{IsSided}
use Rattle.coast_sides.specs.OnenessLaws.{WaterIsOne}
use Rattle.coast_sides.specs.Water.{segments_under}
use Rattle.job_coastline.specs.Coastline.{AreLand, AreWater}
use Rattle.osm_nest.specs.Nested.{ArePolygons}
use Rattle.osm_nest.specs.OneNesting.{PolygonsAreOne}

module _ (one : PolygonsAreOne) where
  pub polygons_one : (edges : List Edge) → IsSided edges → (m n : List Polygon) → ArePolygons edges m → ArePolygons edges n → m ≡ n
  polygons_one edges sided m n a b = one edges sided a.rings b.rings a.cut b.cut m n a.nested b.nested

  pub land_polygons_one : (asked : Bool) (edges : List Edge) → IsSided edges → (m n : List Polygon) → AreLand asked edges m → AreLand asked edges n → m ≡ n
  land_polygons_one true edges sided m n a b = polygons_one edges sided m n a b
  land_polygons_one false edges sided m n a b = a ∙ sym b

  pub water_polygons_one : WaterIsOne → (asked : Bool) (land : List Edge) (m n : List Polygon) → AreWater asked land m → AreWater asked land n → m ≡ n
  water_polygons_one water true land m n a b =
      let q = water (segments_under land) a.0 b.0 a.1 b.1 in
      polygons_one a.0 a.1.sided m n a.2 (subst (λ (es : List Edge). ArePolygons es n) (sym q) b.2)
  water_polygons_one water false land m n a b = a ∙ sym b

-- ---- and each of them is sided
module _ (fit : RingsMayBeNested) (nesting : NestedAreSided) where
  polygons_sided : (edges : List Edge) → IsSided edges → (polygons : List Polygon) → ArePolygons edges polygons → AreSided polygons
  polygons_sided edges sided polygons are = nesting are.rings polygons (fit edges are.rings sided are.cut) are.nested

  no_polygons_sided : (polygons : List Polygon) → polygons ≡ [] → AreSided polygons
  no_polygons_sided polygons none = subst AreSided (sym none) (All-nil (λ (polygon : Polygon). IsSided (edges_in polygon)))

  pub land_sided : (asked : Bool) (edges : List Edge) → IsSided edges → (polygons : List Polygon) → AreLand asked edges polygons → AreSided polygons
  land_sided true edges sided polygons are = polygons_sided edges sided polygons are
  land_sided false edges sided polygons none = no_polygons_sided polygons none

  pub water_sided : (asked : Bool) (land : List Edge) (polygons : List Polygon) → AreWater asked land polygons → AreSided polygons
  water_sided true land polygons are = polygons_sided are.0 are.1.sided polygons are.2
  water_sided false land polygons none = no_polygons_sided polygons none
