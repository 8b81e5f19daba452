-- What a coastline job splits is one, and its leaves are sided.
use Rattle.std.proofs.Common.{List, subst, sym, ◌≡◌}
use Rattle.osm_elements.specs.declared.object.Object.{Object}
use Rattle.osm_nest.specs.Laws.{NestedAreSided, RingsMayBeNested}
use Rattle.osm_nest.specs.declared.polygon.Polygon.{Polygon}
use Rattle.osm_words.specs.Job.{CoastlineSettings}
use Rattle.coast_sides.specs.OnenessLaws.{WaterIsOne}
use Rattle.coast_split.specs.HalfLaws.{LeavesAreSided, TreeIsOne}
use Rattle.job_coastline.specs.Coast.{Coast}
use Rattle.job_coastline.specs.Coastline.{AreCoastAreas, AreLand, AreWater, Areas}
use Rattle.job_coastline.specs.Pieces.{AreLeavesOf, has_land, has_water}
use Rattle.osm_nest.specs.OneNesting.{PolygonsAreOne}
use Rattle.one_output.proofs.OneCoast.LeavesOne.{AreSidedLeaves, leaves_one, leaves_sided}
use Rattle.one_output.proofs.OneCoast.PolygonsOne.{land_polygons_one, land_sided, water_polygons_one, water_sided}
use Rattle.one_output.specs.OneCoast.Laws.{CoastIsOne}

areas_same : (a b : Areas) → a.coast ≡ b.coast → a.land ≡ b.land → a.land_leaves ≡ b.land_leaves → a.water ≡ b.water → a.water_leaves ≡ b.water_leaves → a ≡ b
areas_same a b p q r s t = λ i. record { coast = p i; land = q i; land_leaves = r i; water = s i; water_leaves = t i }

module _ (one : CoastIsOne) (polygons : PolygonsAreOne) (water_one : WaterIsOne) (tree_one : TreeIsOne) (settings : CoastlineSettings) (objects : List Object) where
  pub areas_one : (a b : Areas) → AreCoastAreas settings objects a → AreCoastAreas settings objects b → a ≡ b
  areas_one a b s t = areas_same a b coast land land_leaves water water_leaves
    where
      coast : a.coast ≡ b.coast
      coast = one settings objects a.coast b.coast s.coast t.coast

      land : a.land ≡ b.land
      land =
          land_polygons_one polygons (has_land settings.polygons) a.coast.land.edges s.coast.land.edges.sided a.land b.land s.land
          (subst (λ (c : Coast). AreLand (has_land settings.polygons) c.land.edges b.land) (sym coast) t.land)

      water : a.water ≡ b.water
      water =
          water_polygons_one polygons water_one (has_water settings.polygons) a.coast.land.edges a.water b.water s.water
          (subst (λ (c : Coast). AreWater (has_water settings.polygons) c.land.edges b.water) (sym coast) t.water)

      land_leaves : a.land_leaves ≡ b.land_leaves
      land_leaves =
          leaves_one settings tree_one a.land a.land_leaves b.land_leaves s.land_leaves (subst (λ (ps : List Polygon). AreLeavesOf settings ps b.land_leaves) (sym land) t.land_leaves)

      water_leaves : a.water_leaves ≡ b.water_leaves
      water_leaves =
          leaves_one settings tree_one a.water a.water_leaves b.water_leaves s.water_leaves (subst (λ (ps : List Polygon). AreLeavesOf settings ps b.water_leaves) (sym water) t.water_leaves)

module _ (fit : RingsMayBeNested) (nesting : NestedAreSided) (leaves_are_sided : LeavesAreSided) (settings : CoastlineSettings) (objects : List Object) (areas : Areas) (are : AreCoastAreas settings objects areas) where
  pub land_leaves_sided : AreSidedLeaves areas.land_leaves
  land_leaves_sided =
      leaves_sided settings leaves_are_sided areas.land
      (land_sided fit nesting (has_land settings.polygons) areas.coast.land.edges are.coast.land.edges.sided areas.land are.land) areas.land_leaves are.land_leaves

  pub water_leaves_sided : AreSidedLeaves areas.water_leaves
  water_leaves_sided =
      leaves_sided settings leaves_are_sided areas.water (water_sided fit nesting (has_water settings.polygons) areas.coast.land.edges areas.water are.water) areas.water_leaves are.water_leaves
