-- Words of private clauses on the outlines of polygons and on how many leaves they have. No public contract cites it.
use Rattle.std.specs.Prelude.{◌≡◌, ◌<◌, ◌≤◌, ◌+◌, All, ℕ, List, length, map}
use Rattle.coast_split.specs.LeavesLeft.{AreLeft}
use Rattle.coast_split.specs.declared.leaves.Leaf.{Leaf}
use Rattle.coast_split.specs.declared.leaves.SplitError.{SplitError}
use Rattle.coast_split.specs.declared.leaves.SplitError.TheVariants.{TooManyPieces, OutOfMemory}
use Rattle.coast_join.specs.declared.input.CoastInput.{CoastInput}
use Rattle.osm_elements.specs.declared.object.Object.{Object}
use Rattle.osm_geom.specs.declared.edge.Edge.{Edge}
use Rattle.osm_geom.specs.WholeSegment.{IsWholeSegment}
use Rattle.osm_geom.specs.InPlane.Sided.{IsSided}
use Rattle.osm_nest.specs.Polygons.{edges_in}
use Rattle.osm_nest.specs.declared.polygon.Polygon.{Polygon}
use Rattle.osm_words.specs.Job.{CoastlineSettings}
use Rattle.osm_text.specs.Coast.{HasItsKind}
use Rattle.job_coastline.specs.Coast.{Coast}
use Rattle.job_coastline.specs.CoastSteps.{IsCoastOf, IsInputOf}
use Rattle.job_coastline.specs.Coastline.{AreLand, AreWater, most_leaves}
use Rattle.job_coastline.specs.Pieces.{has_land, has_water}
use Rattle.job_coastline.specs.Report.{coast_lines}
use Rattle.job_coastline.specs.declared.outlines.Outlines.{Outlines}
use Rattle.job_coastline.specs.declared.coast.Shore.{Shore}

-- What is left of what comes of these coastline ways.
pub record IsShoreOf (settings : CoastlineSettings) (input : CoastInput) (shore : Shore) : Type 0 where
  pub coast : Coast
  pub is_coast : IsCoastOf settings input coast
  pub land : shore.land ≡ coast.land.edges
  pub whole : All IsWholeSegment shore.land
  pub sided : IsSided shore.land
  pub told : shore.lines.items ≡ coast_lines coast
  pub kinds : All HasItsKind shore.lines.items

-- The edges of polygons, a list for each, all sided.
pub record AreEdgesOf (polygons : List Polygon) (lists : List (List Edge)) : Type 0 where
  pub are : lists ≡ map edges_in polygons
  pub sided : All IsSided lists

-- The edges of the polygons that come of these coastline ways and are asked for, and the report lines of the coast.
pub record AreOutlinesOf (settings : CoastlineSettings) (input : CoastInput) (outlines : Outlines) : Type 0 where
  pub coast : Coast
  pub is_coast : IsCoastOf settings input coast
  pub land : List Polygon
  pub land_right : AreLand (has_land settings.polygons) coast.land.edges land
  pub land_edges : AreEdgesOf land outlines.land.items
  pub water : List Polygon
  pub water_right : AreWater (has_water settings.polygons) coast.land.edges water
  pub water_edges : AreEdgesOf water outlines.water.items
  pub told : outlines.lines.items ≡ coast_lines coast
  pub kinds : All HasItsKind outlines.lines.items

-- ---- how many leaves

-- Lists have so many leaves, no more than most.
pub record HaveLeaves (settings : CoastlineSettings) (most : ℕ) (lists : List (List Edge)) (count : ℕ) : Type 0 where
  pub leaves : List Leaf
  pub are : AreLeft settings.max_points settings.bbox_overlap lists leaves
  pub counted : count ≡ length leaves
  pub few : count ≤ most

-- Lists have more leaves than most, together.
pub record HaveMoreLeaves (settings : CoastlineSettings) (most : ℕ) (lists : List (List Edge)) : Type 0 where
  pub leaves : List Leaf
  pub are : AreLeft settings.max_points settings.bbox_overlap lists leaves
  pub more : most < length leaves

-- These of land and those of water have no more leaves together than a run may.
pub record HaveFewTogether (settings : CoastlineSettings) (land water : List (List Edge)) : Type 0 where
  pub land_leaves : List Leaf
  pub land_are : AreLeft settings.max_points settings.bbox_overlap land land_leaves
  pub water_leaves : List Leaf
  pub water_are : AreLeft settings.max_points settings.bbox_overlap water water_leaves
  pub few : length land_leaves + length water_leaves ≤ most_leaves

-- They come of these objects, and have few.
pub record AreCounted (settings : CoastlineSettings) (objects : List Object) (outlines : Outlines) : Type 0 where
  pub input : CoastInput
  pub is_input : IsInputOf objects input
  pub are : AreOutlinesOf settings input outlines
  pub few : HaveFewTogether settings outlines.land.items outlines.water.items

-- They have more.
pub record HaveMoreTogether (settings : CoastlineSettings) (land water : List (List Edge)) : Type 0 where
  pub land_leaves : List Leaf
  pub land_are : AreLeft settings.max_points settings.bbox_overlap land land_leaves
  pub water_leaves : List Leaf
  pub water_are : AreLeft settings.max_points settings.bbox_overlap water water_leaves
  pub more : most_leaves < length land_leaves + length water_leaves

-- an error of a part, told of the whole run
abbrev pub whole_error : SplitError → SplitError
whole_error (TooManyPieces most) = TooManyPieces most_leaves
whole_error OutOfMemory = OutOfMemory
