-- What the polygons of a leaf are before they are rounded, as statements.
use Rattle.std.specs.Prelude.{All, List, ℤ, ◌%◌, ◌≡◌, ◌⊎◌}
use Rattle.std.specs.List.{count_by}
use Rattle.plane.specs.Sign.{Plus, sign}
use Rattle.plane.specs.Vector.{Vector}
use Rattle.osm_geom.specs.InPlane.Sided.{IsSided, count_at}
use Rattle.osm_elements.specs.declared.object.Object.{Object}
use Rattle.osm_nest.specs.Cover.{AreSided, covers_at}
use Rattle.osm_nest.specs.Laws.{IsAroundInners}
use Rattle.osm_nest.specs.Nested.{ArePolygons, HasKinds}
use Rattle.osm_words.specs.Job.{CoastlineSettings}
use Rattle.osm_job.specs.Whole.{Whole}
use Rattle.job_coastline.specs.Coastline.{Areas, IsCoastline}
use Rattle.job_coastline.specs.Pieces.{AreTiles, Tile}
use Rattle.osm_nest.specs.ValidPolygons.AreValid.{AreValid}

-- the leaves of land with their polygons, or those of water
abbrev pub AreTilesOf : Areas → List Tile → Type 0
AreTilesOf areas tiles = (AreTiles areas.land_leaves tiles) ⊎ (AreTiles areas.water_leaves tiles)

-- a leaf and its polygons
pub record MakesPolygons (tile : Tile) : Type 0 where
  -- its edges are sided, and each occurs once in the rings; each inner ring is under the outer one that directly encloses it
  pub leaf : IsSided tile.leaf.edges
  pub made : ArePolygons tile.leaf.edges tile.polygons
  -- the first ring of each polygon is outer and the others are inner and lie in it, as their anchors show; its edges are sided
  pub kinds : All HasKinds tile.polygons
  pub around : All IsAroundInners tile.polygons
  pub sided : AreSided tile.polygons
  -- exactly one of the polygons covers each point p.x / q, p.y / q that the leaf covers, and none covers any other point
  pub cover : (q : ℤ) → sign q ≡ Plus → (p : Vector) → count_by (covers_at q p) tile.polygons ≡ count_at q p tile.leaf.edges % 2

abbrev pub PiecesArePolygons : Type 0
PiecesArePolygons =
    (settings : CoastlineSettings) (objects : List Object) (whole : Whole) (right : IsCoastline settings objects whole) →
    (tiles : List Tile) → AreTilesOf right.areas tiles → All MakesPolygons tiles

-- the polygons of land are a valid MultiPolygon, and so are those of water
abbrev pub CoastsAreValid : Type 0
CoastsAreValid =
    (settings : CoastlineSettings) (objects : List Object) (whole : Whole) (right : IsCoastline settings objects whole) →
    AreValid right.areas.land × AreValid right.areas.water

-- and so are those of each leaf
abbrev pub PiecesAreValid : Type 0
PiecesAreValid =
    (settings : CoastlineSettings) (objects : List Object) (whole : Whole) (right : IsCoastline settings objects whole) →
    (tiles : List Tile) → AreTilesOf right.areas tiles → All (λ (tile : Tile). AreValid tile.polygons) tiles
