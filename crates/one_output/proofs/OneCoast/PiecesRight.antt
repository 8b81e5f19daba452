-- The polygons of land, of water and of their leaves are those of sided lists: of the kinds that their anchors tell, and valid.
use Rattle.std.proofs.Common.{All, Bool, List, [], ap, false, inl, inr, subst, sym, true, ◌%◌, ◌∙◌, ◌≡◌}
use Rattle.lists.specs.Member.{In}
use Rattle.lists.proofs.ListsKit.{all-in, in-all, in-map}
use Rattle.osm_elements.specs.declared.object.Object.{Object}
use Rattle.osm_geom.specs.declared.edge.Edge.{Edge}
use Rattle.osm_nest.specs.Laws.{NestedAreAround, NestedAreSided, NestedCoverAsRings, NestedHaveKinds, RingsCountAsEdges, RingsMayBeNested}
use Rattle.osm_nest.specs.declared.polygon.Polygon.{Polygon}
use Rattle.osm_words.specs.Job.{CoastlineSettings}
use Rattle.osm_geom.specs.InPlane.Sided.{IsSided}
use Rattle.coast_split.specs.HalfLaws.{LeavesAreSided}
use Rattle.coast_split.specs.declared.leaves.Leaf.{Leaf}
use Rattle.osm_nest.specs.ValidPolygons.AreValid.{AreValid}
use Rattle.osm_nest.specs.ValidPolygons.Laws.{NestedAreValid}
use Rattle.job_coastline.specs.Coastline.{AreCoastAreas, AreLand, AreWater, Areas}
use Rattle.job_coastline.specs.Pieces.{AreTiles, IsTile, Tile, has_land, has_water}
use Rattle.osm_nest.specs.Nested.{ArePolygons}
use Rattle.one_output.proofs.OneCoast.AreasOne.{land_leaves_sided, water_leaves_sided}
use Rattle.one_output.proofs.OneCoast.LeavesOne.{AreSidedLeaves}
use Rattle.one_output.specs.OneCoast.Pieces.{AreTilesOf, CoastsAreValid, MakesPolygons, PiecesArePolygons, PiecesAreValid}

-- ---- what holds of the polygons of each sided list holds of those of each leaf
module _ (P : Tile → Type 0) (each : (tile : Tile) → IsSided tile.leaf.edges → IsTile tile → P tile) where
  of-leaves : (leaves : List Leaf) → AreSidedLeaves leaves → (tiles : List Tile) → AreTiles leaves tiles → All P tiles
  of-leaves leaves sided tiles are = all-in P tiles (λ tile i.
      let leaf = subst (In tile.leaf) are.of_leaves (in-map (λ (tile : Tile). tile.leaf) tiles tile i) in
      each tile (in-all (λ (leaf : Leaf). IsSided leaf.edges) leaves tile.leaf sided leaf) (in-all IsTile tiles tile are.made i))

  module _ (fit : RingsMayBeNested) (nesting : NestedAreSided) (leaves_are_sided : LeavesAreSided) (settings : CoastlineSettings) (objects : List Object) (areas : Areas) (right : AreCoastAreas settings objects areas) where
    of-areas : (tiles : List Tile) → AreTilesOf areas tiles → All P tiles
    of-areas tiles (inl are) = of-leaves areas.land_leaves (land_leaves_sided fit nesting leaves_are_sided settings objects areas right) tiles are
    of-areas tiles (inr are) = of-leaves areas.water_leaves (water_leaves_sided fit nesting leaves_are_sided settings objects areas right) tiles are

-- ---- kinds and cover
module _ (fit : RingsMayBeNested) (nesting : NestedAreSided) (kinds : NestedHaveKinds) (around : NestedAreAround) (cover : NestedCoverAsRings) (counts : RingsCountAsEdges) where
  makes : (tile : Tile) → IsSided tile.leaf.edges → IsTile tile → MakesPolygons tile
  makes tile sided made =
      let may = fit tile.leaf.edges made.rings sided made.cut in
      record {
        leaf = sided;
        made = made;
        kinds = kinds made.rings tile.polygons may made.nested;
        around = around made.rings tile.polygons may made.nested;
        sided = nesting made.rings tile.polygons may made.nested;
        cover = λ q plus p. cover made.rings tile.polygons may made.nested q plus p ∙ ap (λ n. n % 2) (counts tile.leaf.edges made.rings made.cut q p);
      }

  pub pieces_polygons : LeavesAreSided → PiecesArePolygons
  pieces_polygons leaves_are_sided settings objects whole right tiles are =
      of-areas MakesPolygons makes fit nesting leaves_are_sided settings objects right.areas right.right tiles are

-- ---- valid
empty-valid : AreValid []
empty-valid = record {
  multiple = 1;
  common = λ p i. absurd i;
  valid = record {
    polygons = λ g i. absurd i;
    apart = tt;
    touching = tt;
    regular = λ e i. absurd i;
    parts = λ k hk p q x y. absurd (cc x.once);
  };
}

module _ (valid : NestedAreValid) where
  polygons-valid : (edges : List Edge) → IsSided edges → (polygons : List Polygon) → ArePolygons edges polygons → AreValid polygons
  polygons-valid edges sided polygons are = valid edges sided are.rings are.cut polygons are.nested

  none-valid : (polygons : List Polygon) → polygons ≡ [] → AreValid polygons
  none-valid polygons none = subst AreValid (sym none) empty-valid

  land-valid : (asked : Bool) (edges : List Edge) → IsSided edges → (polygons : List Polygon) → AreLand asked edges polygons → AreValid polygons
  land-valid true edges sided polygons are = polygons-valid edges sided polygons are
  land-valid false edges sided polygons none = none-valid polygons none

  water-valid : (asked : Bool) (land : List Edge) (polygons : List Polygon) → AreWater asked land polygons → AreValid polygons
  water-valid true land polygons are = polygons-valid are.0 are.1.sided polygons are.2
  water-valid false land polygons none = none-valid polygons none

  pub coasts_valid : CoastsAreValid
  coasts_valid settings objects whole right =
      let areas = right.areas in let are = right.right in (
        land-valid (has_land settings.polygons) areas.coast.land.edges are.coast.land.edges.sided areas.land are.land,
        water-valid (has_water settings.polygons) areas.coast.land.edges areas.water are.water,
      )

  pub pieces_valid : RingsMayBeNested → NestedAreSided → LeavesAreSided → PiecesAreValid
  pieces_valid fit nesting leaves_are_sided settings objects whole right tiles are =
      of-areas (λ (tile : Tile). AreValid tile.polygons) (λ tile sided made. polygons-valid tile.leaf.edges sided tile.polygons made)
      fit nesting leaves_are_sided settings objects right.areas right.right tiles are
