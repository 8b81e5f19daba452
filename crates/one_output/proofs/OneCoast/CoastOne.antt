-- What comes of the coastline ways of objects is one, and so are the whole of a coastline job and its counts.
use Rattle.std.proofs.Common.{All, List, [], ap, ap₂, arith, inl, inr, map, refl, subst, sym, ◌∙◌, ◌∷◌, ◌≡◌}
use Rattle.osm_elements.specs.declared.object.Object.{Object}
use Rattle.osm_job.specs.Whole.{Whole}
use Rattle.osm_job.proofs.JobKit.{whole_same}
use Rattle.osm_nest.specs.Laws.{NestedAreSided, RingsMayBeNested}
use Rattle.osm_text.specs.Coast.{CoastLineIsOne, HasItsKind}
use Rattle.osm_text.specs.declared.coast.CoastLine.{CoastLine}
use Rattle.osm_words.specs.Job.{CoastlineSettings}
use Rattle.coast_join.specs.declared.chain.Chain.{Chain}
use Rattle.coast_join.specs.declared.gap.Closings.{Closings}
use Rattle.coast_join.specs.declared.joined.Joined.{Joined}
use Rattle.coast_join.specs.declared.way.CoastWay.{CoastWay}
use Rattle.coast_join.specs.ChainLaws.{ChainsAreOne}
use Rattle.coast_join.specs.Chains.{AreChains, WayPath, line_at, way_path_of}
use Rattle.coast_join.specs.Closings.{AreClosings}
use Rattle.coast_join.specs.Joined.{AreJoined}
use Rattle.coast_rings.specs.Line.{IsLine}
use Rattle.coast_rings.proofs.RingsKit.{line_prop}
use Rattle.coast_join.specs.RingLaws.{ClosingsAreOne, JoinedIsOne}
use Rattle.coast_split.specs.HalfLaws.{LeavesAreSided, TreeIsOne}
use Rattle.coast_split.specs.declared.leaves.Leaf.{Leaf}
use Rattle.coast_sides.specs.declared.sorted.Sorted.{Sorted}
use Rattle.coast_sides.specs.CutSorting.{IsSortedWith}
use Rattle.coast_sides.specs.OnenessLaws.{LandIsOne, SortedIsOne, WaterIsOne}
use Rattle.coast_sides.specs.RingLand.{IsLandOf}
use Rattle.job_coastline.specs.Coast.{Coast, IsCoast}
use Rattle.job_coastline.specs.Coastline.{Areas, AreWritten, AreWrittenOrTooMany, IsCoastline, all_lines, all_sent}
use Rattle.job_coastline.specs.Counts.{AreCoastCounts, coast_counts_of}
use Rattle.job_coastline.specs.declared.counts.CoastCounts.{CoastCounts}
use Rattle.job_coastline.specs.LineLaws.{LinesHaveKinds}
use Rattle.job_coastline.specs.Pieces.{AreTiles, Tile}
use Rattle.job_coastline.specs.Report.{ArePrinted, ending_of}
use Rattle.osm_nest.specs.OneNesting.{PolygonsAreOne}
use Rattle.one_output.proofs.OneCoast.AreasOne.{areas_one, land_leaves_sided, water_leaves_sided}
use Rattle.one_output.proofs.OneCoast.LeavesOne.{AreSidedLeaves, tiles_one}
use Rattle.one_output.proofs.OneCoast.PrintedOne.{printed_one}
use Rattle.one_output.specs.OneCoast.Laws.{CoastIsOne}
use mathlib.Core.HLevel.{is_prop→PathP}

-- ---- ways told by their lines
way_same : (v w : CoastWay) → v.id ≡ w.id → v.path ≡ w.path → v ≡ w
way_same v w a b = λ i. record { id = a i; path = b i; line = is_prop→PathP (λ j. IsLine (b j)) (λ j. line_prop (b j)) v.line w.line i }

ways_one : (vs ws : List CoastWay) → map way_path_of vs ≡ map way_path_of ws → vs ≡ ws
ways_one [] [] h = refl
ways_one [] (w ∷ ws) h = cc
ways_one (v ∷ vs) [] h = cc
ways_one (v ∷ vs) (w ∷ ws) h =
    let first : way_path_of v ≡ way_path_of w = ap (λ (lines : List WayPath). line_at lines 0) h in
    let same = way_same v w (ap (λ (line : WayPath). line.id) first) (ap (λ (line : WayPath). line.path) first) in
    ap (λ x. x ∷ vs) same ∙ ap (λ l. w ∷ l) (ways_one vs ws (cc))

-- ---- the coast
coast_same : (c d : Coast) → c.asides ≡ d.asides → c.chains ≡ d.chains → c.closings ≡ d.closings → c.joined ≡ d.joined → c.sorted ≡ d.sorted → c.land ≡ d.land → c ≡ d
coast_same c d p q r s t u = λ i. record { asides = p i; chains = q i; closings = r i; joined = s i; sorted = t i; land = u i }

module _ (chains_one : ChainsAreOne) (closings_one : ClosingsAreOne) (joined_one : JoinedIsOne) (sorted_one : SortedIsOne) (land_one : LandIsOne) where
  pub coast_one : (settings : CoastlineSettings) (objects : List Object) (c d : Coast) → IsCoast settings objects c → IsCoast settings objects d → c ≡ d
  coast_one settings objects c d s t = coast_same c d (s.asides ∙ sym t.asides) chains closings joined sorted land
    where
      ways : s.ways ≡ t.ways
      ways = ways_one s.ways t.ways (s.taking_part ∙ sym t.taking_part)

      chains : c.chains ≡ d.chains
      chains = chains_one s.ways c.chains d.chains s.chains (subst (λ (ws : List CoastWay). AreChains ws d.chains) (sym ways) t.chains)

      closings : c.closings ≡ d.closings
      closings =
          closings_one s.ways c.chains s.chains settings.close_distance c.closings d.closings s.closings
          (subst (λ (cs : List Chain). AreClosings cs settings.close_distance d.closings) (sym chains) t.closings)

      joined_here : AreJoined c.chains c.closings d.joined
      joined_here = subst (λ (cs : List Chain). AreJoined cs c.closings d.joined) (sym chains) (subst (λ (x : Closings). AreJoined d.chains x d.joined) (sym closings) t.joined)

      joined : c.joined ≡ d.joined
      joined = joined_one c.chains settings.close_distance c.closings s.closings c.joined d.joined s.joined joined_here

      sorted : c.sorted ≡ d.sorted
      sorted =
          sorted_one settings.cut_crossings c.joined.rings c.sorted d.sorted s.sorted
          (subst (λ (x : Joined). IsSortedWith settings.cut_crossings x.rings d.sorted) (sym joined) t.sorted)

      land : c.land ≡ d.land
      land = land_one c.sorted.kept c.land d.land s.land (subst (λ (x : Sorted). IsLandOf x.kept d.land) (sym sorted) t.land)

-- ---- the whole
-- what is written of leaves is one
module _ (coast : Coast) (kinds : (land water : List Tile) → All HasItsKind (all_lines coast land water)) (line : CoastLineIsOne) (polygons : PolygonsAreOne) (land water : List Leaf) (land_sided : AreSidedLeaves land)
    (water_sided : AreSidedLeaves water) where
  written_one : (v w : Whole) → AreWritten coast land water v → AreWritten coast land water w → v ≡ w
  written_one v w s t = whole_same v w (s.written ∙ sent ∙ sym t.written) (s.ended ∙ ap ending_of lines ∙ sym t.ended)
    where
      same_land : s.land_tiles ≡ t.land_tiles
      same_land = tiles_one polygons land land_sided s.land_tiles t.land_tiles s.land_made t.land_made

      same_water : s.water_tiles ≡ t.water_tiles
      same_water = tiles_one polygons water water_sided s.water_tiles t.water_tiles s.water_made t.water_made

      lines : all_lines coast s.land_tiles s.water_tiles ≡ all_lines coast t.land_tiles t.water_tiles
      lines = ap₂ (λ (x y : List Tile). all_lines coast x y) same_land same_water

      report : s.report ≡ t.report
      report =
          printed_one line (all_lines coast s.land_tiles s.water_tiles) (kinds s.land_tiles s.water_tiles) s.report t.report s.printed
          (subst (λ (ls : List CoastLine). ArePrinted ls t.report) (sym lines) t.printed)

      sent : all_sent s.land_tiles s.water_tiles s.report ≡ all_sent t.land_tiles t.water_tiles t.report
      sent =
          ap (λ l. all_sent l s.water_tiles s.report) same_land ∙ ap (λ l. all_sent t.land_tiles l s.report) same_water
          ∙ ap (λ l. all_sent t.land_tiles t.water_tiles l) report

  pub written_or_too_many_one : (v w : Whole) → AreWrittenOrTooMany coast land water v → AreWrittenOrTooMany coast land water w → v ≡ w
  written_or_too_many_one v w (inl s) (inl t) = written_one v w s.1 t.1
  written_or_too_many_one v w (inl s) (inr t) = absurd (let few = s.0 in let many = t.0 in omega arith)
  written_or_too_many_one v w (inr s) (inl t) = absurd (let many = s.0 in let few = t.0 in omega arith)
  written_or_too_many_one v w (inr s) (inr t) = s.1 ∙ sym t.1

module _ (one : CoastIsOne) (kinds : LinesHaveKinds) (line : CoastLineIsOne) (polygons : PolygonsAreOne) (water_one : WaterIsOne) (fit : RingsMayBeNested) (nesting : NestedAreSided) (tree_one : TreeIsOne)
    (leaves_are_sided : LeavesAreSided) where
  pub coastline_one : (settings : CoastlineSettings) (objects : List Object) (v w : Whole) → IsCoastline settings objects v → IsCoastline settings objects w → v ≡ w
  coastline_one settings objects v w s t =
      written_or_too_many_one s.areas.coast (kinds settings objects s.areas.coast s.right.coast) line polygons s.areas.land_leaves s.areas.water_leaves
      (land_leaves_sided fit nesting leaves_are_sided settings objects s.areas s.right) (water_leaves_sided fit nesting leaves_are_sided settings objects s.areas s.right) v w s.written
      (subst (λ (areas : Areas). AreWrittenOrTooMany areas.coast areas.land_leaves areas.water_leaves w) (sym (areas_one one polygons water_one tree_one settings objects s.areas t.areas s.right t.right)) t.written)

-- ---- the counts

module _ (one : CoastIsOne) (polygons : PolygonsAreOne) (water_one : WaterIsOne) (fit : RingsMayBeNested) (nesting : NestedAreSided) (tree_one : TreeIsOne) (leaves_are_sided : LeavesAreSided) where
  pub counts_one : (settings : CoastlineSettings) (objects : List Object) (c d : CoastCounts) → AreCoastCounts settings objects c → AreCoastCounts settings objects d → c ≡ d
  counts_one settings objects c d s t =
      s.counted ∙ ap (λ (areas : Areas). coast_counts_of areas.coast s.land s.water) areas ∙ ap₂ (λ (x y : List Tile). coast_counts_of t.areas.coast x y) land water ∙ sym t.counted
    where
      areas : s.areas ≡ t.areas
      areas = areas_one one polygons water_one tree_one settings objects s.areas t.areas s.right t.right

      land : s.land ≡ t.land
      land =
          tiles_one polygons s.areas.land_leaves (land_leaves_sided fit nesting leaves_are_sided settings objects s.areas s.right) s.land t.land s.land_made
          (subst (λ (a : Areas). AreTiles a.land_leaves t.land) (sym areas) t.land_made)

      water : s.water ≡ t.water
      water =
          tiles_one polygons s.areas.water_leaves (water_leaves_sided fit nesting leaves_are_sided settings objects s.areas s.right) s.water t.water s.water_made
          (subst (λ (a : Areas). AreTiles a.water_leaves t.water) (sym areas) t.water_made)
