-- What the leaves of land and of water cover together, as statements.
use Rattle.std.specs.Prelude.{All, List, true, ℕ, ℤ, pos, ◌%◌, ◌+◌, ◌-ℤ◌, ◌↔◌, ◌≡◌}
use Rattle.std.specs.List.{sum_by}
use Rattle.plane.specs.Sign.{Plus, sign}
use Rattle.plane.specs.Vector.{Vector}
use Rattle.lists.specs.Member.{In}
use Rattle.osm_elements.specs.declared.object.Object.{Object}
use Rattle.osm_words.specs.Job.{CoastlineSettings}
use Rattle.osm_job.specs.Whole.{Whole}
use Rattle.coast_sides.specs.Land.{parity_at}
use Rattle.coast_sides.specs.Segments.{all_segments}
use Rattle.coast_sides.specs.Water.{IsInsideWorld}
use Rattle.osm_geom.specs.InPlane.Sided.{count_at}
use Rattle.coast_split.specs.declared.leaves.Leaf.{Leaf}
use Rattle.coast_split.specs.SplitTree.{Covers, IsOffList}
use Rattle.job_coastline.specs.Coastline.{IsCoastline}
use Rattle.job_coastline.specs.Pieces.{has_land, has_water}

-- some leaf covers the point p.x / q, p.y / q
pub record SomeLeafCovers (q : ℤ) (p : Vector) (leaves : List Leaf) : Type 0 where
  pub leaf : Leaf
  pub member : In leaf leaves
  pub covers : Covers q p leaf.edges

-- the point is on no edge of a leaf
abbrev pub IsOffLeafEdges : ℤ → Vector → List Leaf → Type 0
IsOffLeafEdges q p leaves = All (λ (leaf : Leaf). IsOffList q p leaf.edges) leaves

-- If land is asked for: take a point off the edges of the leaves of land.
-- Some of these leaves covers it exactly if an odd number of the kept rings' segments are to the right of it. None of these
-- segments is cancelled.
abbrev pub LandLeavesCover : Type 0
LandLeavesCover =
    (settings : CoastlineSettings) (objects : List Object) (whole : Whole) (right : IsCoastline settings objects whole) → has_land settings.polygons ≡ true →
    (q : ℤ) → sign q ≡ Plus → (p : Vector) → IsOffLeafEdges q p right.areas.land_leaves →
    SomeLeafCovers q p right.areas.land_leaves ↔ (parity_at q p (all_segments right.areas.coast.sorted.kept) ≡ pos 1)

-- If water is asked for: take a whole point strictly within the world, off the edges of the leaves of water.
-- Some of these leaves covers it exactly if that number is even.
abbrev pub WaterLeavesCover : Type 0
WaterLeavesCover =
    (settings : CoastlineSettings) (objects : List Object) (whole : Whole) (right : IsCoastline settings objects whole) → has_water settings.polygons ≡ true →
    (p : Vector) → IsInsideWorld p → IsOffLeafEdges (pos 1) p right.areas.water_leaves →
    SomeLeafCovers (pos 1) p right.areas.water_leaves ↔ (parity_at (pos 1) p (all_segments right.areas.coast.sorted.kept) ≡ pos 0)

-- how many of the leaves cover the point
abbrev pub leaves_over : ℤ → Vector → List Leaf → ℕ
leaves_over q p leaves = sum_by (λ (leaf : Leaf). count_at q p leaf.edges % 2) leaves

-- Without an overlap no point off the edges is in two leaves of land: it is in one if that number is odd, and in none if it is even.
abbrev pub LandLeavesPart : Type 0
LandLeavesPart =
    (settings : CoastlineSettings) (objects : List Object) (whole : Whole) (right : IsCoastline settings objects whole) → has_land settings.polygons ≡ true →
    settings.bbox_overlap ≡ 0 → (q : ℤ) → sign q ≡ Plus → (p : Vector) → IsOffLeafEdges q p right.areas.land_leaves →
    pos (leaves_over q p right.areas.land_leaves) ≡ parity_at q p (all_segments right.areas.coast.sorted.kept)

-- Of the leaves of water, one covers such a whole point strictly within the world if the number is even, and none if it is odd.
abbrev pub WaterLeavesPart : Type 0
WaterLeavesPart =
    (settings : CoastlineSettings) (objects : List Object) (whole : Whole) (right : IsCoastline settings objects whole) → has_water settings.polygons ≡ true →
    settings.bbox_overlap ≡ 0 → (p : Vector) → IsInsideWorld p → IsOffLeafEdges (pos 1) p right.areas.water_leaves →
    pos (leaves_over (pos 1) p right.areas.water_leaves) ≡ pos 1 -ℤ parity_at (pos 1) p (all_segments right.areas.coast.sorted.kept)

-- If both are asked for, exactly one leaf covers such a point.
abbrev pub LeavesPartTheWorld : Type 0
LeavesPartTheWorld =
    (settings : CoastlineSettings) (objects : List Object) (whole : Whole) (right : IsCoastline settings objects whole) →
    has_land settings.polygons ≡ true → has_water settings.polygons ≡ true → settings.bbox_overlap ≡ 0 → (p : Vector) → IsInsideWorld p →
    IsOffLeafEdges (pos 1) p right.areas.land_leaves → IsOffLeafEdges (pos 1) p right.areas.water_leaves →
    leaves_over (pos 1) p right.areas.land_leaves + leaves_over (pos 1) p right.areas.water_leaves ≡ 1
