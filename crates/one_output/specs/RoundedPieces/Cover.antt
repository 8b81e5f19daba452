-- What the printed land and water cover together, as statements.
use Rattle.std.specs.Prelude.{All, List, pos, true, ℤ, ◌↔◌, ◌≡◌}
use Rattle.lists.specs.Member.{In}
use Rattle.osm_elements.specs.declared.object.Object.{Object}
use Rattle.coast_sides.specs.Land.{parity_at}
use Rattle.coast_sides.specs.Segments.{all_segments}
use Rattle.coast_sides.specs.Water.{IsInsideWorld}
use Rattle.job_coastline.specs.Coastline.{IsCoastline}
use Rattle.job_coastline.specs.Pieces.{AreTiles, Tile, has_land, has_water}
use Rattle.one_output.specs.OneCoast.Cover.{SomeLeafCovers}
use Rattle.osm_job.specs.Whole.{Whole}
use Rattle.osm_nest.specs.declared.polygon.Polygon.{Polygon}
use Rattle.osm_words.specs.Job.{CoastlineSettings}
use Rattle.plane.specs.Sign.{Plus, sign}
use Rattle.plane.specs.Vector.{Vector}
use Rattle.one_output.specs.RoundedPieces.Printed.{print_covers}
use Rattle.one_output.specs.RoundedPieces.Tiles.{IsBeyondLeaf}

-- the print of some polygon of some leaf covers the point p.x / q, p.y / q
pub record SomePrintCovers (q : ℤ) (p : Vector) (tiles : List Tile) : Type 0 where
  pub tile : Tile
  pub member : In tile tiles
  pub polygon : Polygon
  pub of_tile : In polygon tile.polygons
  pub covers : print_covers q p polygon ≡ true

-- Take a point whose closed unit square meets no edge of a leaf of land.
-- The print of some leaf of land covers it exactly if some leaf of land does.
abbrev pub PrintedLandCovers : Type 0
PrintedLandCovers =
    (settings : CoastlineSettings) (objects : List Object) (whole : Whole) (right : IsCoastline settings objects whole) (tiles : List Tile) →
    AreTiles right.areas.land_leaves tiles → (q : ℤ) → sign q ≡ Plus → (p : Vector) → All (IsBeyondLeaf q p) right.areas.land_leaves →
    SomePrintCovers q p tiles ↔ SomeLeafCovers q p right.areas.land_leaves

-- The same holds for water.
abbrev pub PrintedWaterCovers : Type 0
PrintedWaterCovers =
    (settings : CoastlineSettings) (objects : List Object) (whole : Whole) (right : IsCoastline settings objects whole) (tiles : List Tile) →
    AreTiles right.areas.water_leaves tiles → (q : ℤ) → sign q ≡ Plus → (p : Vector) → All (IsBeyondLeaf q p) right.areas.water_leaves →
    SomePrintCovers q p tiles ↔ SomeLeafCovers q p right.areas.water_leaves

-- If land is asked for: the print of some leaf of land covers such a point exactly if a number is odd.
-- It is that of the kept rings' segments to the right of the point. None of these segments is cancelled.
abbrev pub PrintedLandIsCoast : Type 0
PrintedLandIsCoast =
    (settings : CoastlineSettings) (objects : List Object) (whole : Whole) (right : IsCoastline settings objects whole) → has_land settings.polygons ≡ true →
    (tiles : List Tile) → AreTiles right.areas.land_leaves tiles → (q : ℤ) → sign q ≡ Plus → (p : Vector) → All (IsBeyondLeaf q p) right.areas.land_leaves →
    SomePrintCovers q p tiles ↔ (parity_at q p (all_segments right.areas.coast.sorted.kept) ≡ pos 1)

-- If water is asked for: take such a whole point strictly within the world, for the leaves of water.
-- The print of some leaf of water covers it exactly if that number is even.
abbrev pub PrintedWaterIsCoast : Type 0
PrintedWaterIsCoast =
    (settings : CoastlineSettings) (objects : List Object) (whole : Whole) (right : IsCoastline settings objects whole) → has_water settings.polygons ≡ true →
    (tiles : List Tile) → AreTiles right.areas.water_leaves tiles → (p : Vector) → IsInsideWorld p → All (IsBeyondLeaf (pos 1) p) right.areas.water_leaves →
    SomePrintCovers (pos 1) p tiles ↔ (parity_at (pos 1) p (all_segments right.areas.coast.sorted.kept) ≡ pos 0)
