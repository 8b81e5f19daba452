-- A coastline job over objects has a whole, and counts.
use Rattle.std.proofs.Common.{All, Bool, List, [], false, inl, inr, length, map, refl, true, ℕ, ◌+◌, ◌++◌, ◌<◌, ◌≤◌, ◌⊎◌, ◌∷◌}
use Rattle.std.proofs.lemmas.Bool.{cases_lt}
use Rattle.std.specs.List.{IsDistinct, flat_map}
use Rattle.std.specs.Ordering.{int_eq}
use Rattle.osm_elements.specs.declared.object.Object.{Object}
use Rattle.osm_words.specs.Job.{CoastlineSettings}
use Rattle.osm_job.specs.Whole.{Whole, silent}
use Rattle.osm_job.specs.declared.ended.Ended.TheVariants as ended
use Rattle.coast_split.specs.HalfLaws.{LeavesAreSided}
use Rattle.coast_split.specs.SplitTree.{leaf_of, leaves_of}
use Rattle.coast_split.specs.TreeLaws.{SplitTreesExist}
use Rattle.coast_split.specs.declared.leaves.Leaf.{Leaf}
use Rattle.osm_objects.specs.CoastWays.{coast_ways}
use Rattle.osm_geom.specs.declared.edge.Edge.{Edge}
use Rattle.osm_geom.specs.WholeSegment.{IsWholeSegment}
use Rattle.osm_nest.specs.declared.polygon.Polygon.{Polygon}
use Rattle.osm_nest.specs.Laws.{NestedAreSided, RingsMayBeNested}
use Rattle.osm_nest.specs.Polygons.{edges_in}
use Rattle.osm_geom.specs.InPlane.Sided.{IsSided}
use Rattle.coast_join.specs.ChainLaws.{ChainsExist}
use Rattle.coast_join.specs.Input.{asides_of}
use Rattle.coast_join.specs.InputLaws.{CoastWaysExist}
use Rattle.coast_join.specs.RingLaws.{ClosingsExist, JoinedExists}
use Rattle.coast_sides.specs.ExistenceLaws.{LandExists, SortedExists, WaterExists}
use Rattle.job_coastline.specs.Coast.{Coast, IsCoast}
use Rattle.job_coastline.specs.Coastline.{AreCoastAreas, AreLand, AreWater, Areas, AreWritten, AreWrittenOrTooMany, all_lines, all_sent, most_leaves}
use Rattle.job_coastline.specs.Counts.{coast_counts_of}
use Rattle.job_coastline.specs.LineLaws.{LinesHaveKinds}
use Rattle.job_coastline.specs.PieceLaws.{EdgesMakePolygons, ReportExists, TilesExist}
use Rattle.job_coastline.specs.Pieces.{AreLeavesOf, has_land, has_water}
use Rattle.job_coastline.specs.Report.{ending_of}
use Rattle.one_output.proofs.OneCoast.AreasOne.{land_leaves_sided, water_leaves_sided}
use Rattle.one_output.proofs.OneCoast.LeavesOne.{AreSidedLeaves}
use Rattle.one_output.specs.OneCoast.Laws.{CoastCountsExist, CoastExists, CoastlineExists}

-- ---- the coast
pub coast_there : CoastWaysExist → ChainsExist → ClosingsExist → JoinedExists → SortedExists → LandExists → CoastExists
coast_there some_ways some_chains some_closings some_joined some_sorted some_land settings objects apart =
    let ways = some_ways objects apart in
    let chains = some_chains ways.0 ways.2 in
    let closings = some_closings ways.0 chains.0 chains.1 settings.close_distance in
    let joined = some_joined ways.0 chains.0 chains.1 settings.close_distance closings.0 closings.1 in
    let sorted = some_sorted settings.cut_crossings joined.0.rings in
    let land = some_land sorted.0.kept (sorted.2 (λ cut. joined.1.rings_rise)) in (
      record {
        asides = flat_map (asides_of objects) (coast_ways objects);
        chains = chains.0;
        closings = closings.0;
        joined = joined.0;
        sorted = sorted.0;
        land = land.0;
      },
      record {
        ways = ways.0;
        taking_part = ways.1;
        asides = refl;
        chains = chains.1;
        closings = closings.1;
        joined = joined.1;
        sorted = sorted.1;
        land = land.1;
      },
    )

-- ---- polygons
module _ (some_polygons : EdgesMakePolygons) where
  pub land_there : (asked : Bool) (edges : List Edge) → IsSided edges → (polygons : List Polygon) × AreLand asked edges polygons
  land_there true edges sided = some_polygons edges sided
  land_there false edges sided = ([], refl)

  pub water_there : WaterExists → (asked : Bool) (land : List Edge) → All IsWholeSegment land → IsSided land → (polygons : List Polygon) × AreWater asked land polygons
  water_there some_water true land whole sided =
      let water = some_water land whole sided in
      let polygons = some_polygons water.0 water.1.sided in
      (polygons.0, (water.0, water.1, polygons.1))
  water_there some_water false land whole sided = ([], refl)

-- ---- leaves
module _ (settings : CoastlineSettings) (some_tree : SplitTreesExist) where
  leaves_there : (polygons : List Polygon) → (leaves : List Leaf) × AreLeavesOf settings polygons leaves
  leaves_there [] = ([], refl)
  leaves_there (polygon ∷ polygons) =
      let tree = some_tree settings.max_points settings.bbox_overlap (edges_in polygon) in
      let first = map (leaf_of settings.max_points) (leaves_of (edges_in polygon) tree.0) in
      let rest = leaves_there polygons in
      (first ++ rest.0, (first, rest.0, record { tree = tree.0; is_tree = tree.1; leaves = refl }, rest.1, refl))

-- ---- the whole
module _ (kinds : LinesHaveKinds) (some_report : ReportExists) (some_tiles : TilesExist) (settings : CoastlineSettings) (objects : List Object) (coast : Coast)
    (is : IsCoast settings objects coast) (land water : List Leaf) (land_sided : AreSidedLeaves land) (water_sided : AreSidedLeaves water) where
  written_there : (whole : Whole) × AreWritten coast land water whole
  written_there =
      let l = some_tiles land land_sided in
      let w = some_tiles water water_sided in
      let report = some_report (all_lines coast l.0 w.0) (kinds settings objects coast is l.0 w.0) in (
        record { written = all_sent l.0 w.0 report.0; ended = ending_of (all_lines coast l.0 w.0) },
        record { land_tiles = l.0; land_made = l.1; water_tiles = w.0; water_made = w.1; report = report.0; printed = report.1; written = refl; ended = refl },
      )

  written_by : (most_leaves < length land + length water) ⊎ (length land + length water ≤ most_leaves) → (whole : Whole) × AreWrittenOrTooMany coast land water whole
  written_by (inl many) = (silent (ended.TooManyPieces most_leaves), inr (many, refl))
  written_by (inr few) = let whole = written_there in (whole.0, inl (few, whole.1))

  written_or_too_many_there : (whole : Whole) × AreWrittenOrTooMany coast land water whole
  written_or_too_many_there = written_by (cases_lt most_leaves (length land + length water))

-- ---- what is split
module _ (some_coast : CoastExists) (some_polygons : EdgesMakePolygons) (some_water : WaterExists) (some_tree : SplitTreesExist) (settings : CoastlineSettings)
    (objects : List Object) (apart : IsDistinct int_eq (coast_ways objects)) where
  areas_there : (areas : Areas) × AreCoastAreas settings objects areas
  areas_there =
      let coast = some_coast settings objects apart in
      let edges = coast.1.land.edges in
      let land = land_there some_polygons (has_land settings.polygons) coast.0.land.edges edges.sided in
      let water = water_there some_polygons some_water (has_water settings.polygons) coast.0.land.edges edges.whole edges.sided in
      let land_leaves = leaves_there settings some_tree land.0 in
      let water_leaves = leaves_there settings some_tree water.0 in (
        record { coast = coast.0; land = land.0; land_leaves = land_leaves.0; water = water.0; water_leaves = water_leaves.0 },
        record { coast = coast.1; land = land.1; land_leaves = land_leaves.1; water = water.1; water_leaves = water_leaves.1 },
      )

module _ (some_coast : CoastExists) (some_polygons : EdgesMakePolygons) (some_tiles : TilesExist) (some_water : WaterExists) (fit : RingsMayBeNested) (nesting : NestedAreSided) (some_tree : SplitTreesExist)
    (leaves_are_sided : LeavesAreSided) where
  pub coastline_there : LinesHaveKinds → ReportExists → CoastlineExists
  coastline_there kinds some_report settings objects apart =
      let split = areas_there some_coast some_polygons some_water some_tree settings objects apart in
      let areas = split.0 in
      let whole = written_or_too_many_there kinds some_report some_tiles settings objects areas.coast split.1.coast areas.land_leaves areas.water_leaves
      (land_leaves_sided fit nesting leaves_are_sided settings objects areas split.1) (water_leaves_sided fit nesting leaves_are_sided settings objects areas split.1) in
      (whole.0, record { areas = areas; right = split.1; written = whole.1 })

  pub counts_there : CoastCountsExist
  counts_there settings objects apart =
      let split = areas_there some_coast some_polygons some_water some_tree settings objects apart in
      let areas = split.0 in
      let land = some_tiles areas.land_leaves (land_leaves_sided fit nesting leaves_are_sided settings objects areas split.1) in
      let water = some_tiles areas.water_leaves (water_leaves_sided fit nesting leaves_are_sided settings objects areas split.1) in (
        coast_counts_of areas.coast land.0 water.0,
        record { areas = areas; right = split.1; land = land.0; land_made = land.1; water = water.0; water_made = water.1; counted = refl },
      )
