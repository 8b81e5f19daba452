-- What comes of coastline ways, and its report lines, from the steps.
use Rattle.std.proofs.Common.{◌≡◌, ◌∙◌, refl, sym, ap, subst, All, Bool, List, [], ◌∷◌, ◌++◌, append_assoc, map}
use Rattle.std.proofs.lemmas.List.{map-append}
use Rattle.std.proofs.lemmas.List.Elements.{All-map}
use Rattle.std.specs.List.{filter_map}
use Rattle.coast_join.specs.Chains.{AreChains}
use Rattle.coast_join.specs.declared.chain.Chain.{Chain}
use Rattle.coast_join.specs.declared.input.CoastInput.{CoastInput}
use Rattle.coast_join.specs.declared.joined.Joined.{Joined}
use Rattle.coast_sides.specs.Segments.{all_segments}
use Rattle.coast_sides.specs.CutSorting.{IsSortedWith}
use Rattle.coast_sides.specs.declared.sorted.Sorted.{Sorted}
use Rattle.osm_geom.specs.declared.edge.Edge.{Edge}
use Rattle.osm_geom.specs.InPlane.Sided.{IsSided}
use Rattle.osm_geom.specs.WholeSegment.{IsWholeSegment}
use Rattle.osm_nest.specs.Cover.{AreSided}
use Rattle.osm_nest.specs.Polygons.{edges_in}
use Rattle.osm_nest.specs.declared.polygon.Polygon.{Polygon}
use Rattle.osm_text.specs.Coast.{HasItsKind}
use Rattle.osm_text.specs.declared.coast.CoastLine.{CoastLine}
use Rattle.osm_words.specs.Job.{CoastlineSettings}
use Rattle.job_coastline.specs.CoastSteps.{JoinsChains, MakesCoast, MakesLand}
use Rattle.job_coastline.specs.Coastline.{AreLand, AreWater}
use Rattle.job_coastline.specs.OutlineSteps.{AreEdgesOf, AreOutlinesOf, IsShoreOf}
use Rattle.job_coastline.specs.Pieces.{has_land, has_water}
use Rattle.job_coastline.specs.Report.{antarctica_line, aside_line, coast_lines, conflict_line, cut_line, gap_line, left_out_line, repeated_line, unclosed_line, wrong_way_line}
use Rattle.job_coastline.specs.declared.coast.Shore.{Shore}
use Rattle.job_coastline.specs.declared.outlines.Outlines.{Outlines}
use Rattle.job_coastline.proofs.LineKinds.{lines_of_kind, pairs_told}

in_a_row : (o a b c u r : List CoastLine) → (((o ++ a) ++ (b ++ c)) ++ u) ++ r ≡ o ++ (a ++ (b ++ (c ++ (u ++ r))))
in_a_row o a b c u r =
    append_assoc ((o ++ a) ++ (b ++ c)) u r ∙ append_assoc (o ++ a) (b ++ c) (u ++ r) ∙ append_assoc o a ((b ++ c) ++ (u ++ r))
    ∙ ap (λ (xs : List CoastLine). o ++ (a ++ xs)) (append_assoc b c (u ++ r))

-- ---- outlines

pub more_edges : (passed : List Polygon) (polygon : Polygon) (lists more : List (List Edge)) → lists ≡ map edges_in passed → more ≡ lists ++ edges_in polygon ∷ [] → more ≡ map edges_in (passed ++ polygon ∷ [])
more_edges passed polygon lists more so_far grown =
    grown ∙ ap (λ (xs : List (List Edge)). xs ++ edges_in polygon ∷ []) so_far ∙ sym (map-append edges_in passed (polygon ∷ []))

pub all_edges_of : (polygons : List Polygon) (lists : List (List Edge)) → lists ≡ map edges_in polygons → AreSided polygons → AreEdgesOf polygons lists
all_edges_of polygons lists are sided = record { are = are; sided = subst (λ (xs : List (List Edge)). All IsSided xs) (sym are) (All-map IsSided edges_in polygons (λ k d lt. sided k d lt)) }

-- ---- from the steps

module _ (settings : CoastlineSettings) (input : CoastInput) where
  pub coast_made : (chains : List Chain) (joined : Joined) (sorted : Sorted) (edges : List Edge) (start told_of_ways told_of_chains told_of_rings told : List CoastLine) →
      AreChains input.ways chains → told_of_ways ≡ start ++ map aside_line input.aside → JoinsChains chains settings.close_distance joined told_of_ways told_of_chains →
      IsSortedWith settings.cut_crossings joined.rings sorted → told_of_rings ≡ told_of_chains ++ map unclosed_line joined.unclosed → MakesLand sorted edges told_of_rings told → MakesCoast settings input edges start told
  coast_made chains joined sorted edges start one two three four are_chains asides joins is_sorted unclosed land = record {
    coast = record { asides = input.aside; chains = chains; closings = joins.closings; joined = joined; sorted = sorted; land = land.land };
    is_coast = record { asides = refl; chains = are_chains; closings = joins.are_closings; joined = joins.are_joined; sorted = is_sorted; land = land.is_land };
    has = land.has;
    told =
        let a = map aside_line input.aside in
        let b = filter_map (antarctica_line chains) joins.closings.antarctica in
        let c = filter_map (gap_line chains) joins.closings.gaps in
        let u = map unclosed_line joined.unclosed in
        let r = map cut_line sorted.cuts ++ (map left_out_line sorted.left_out ++ (map conflict_line sorted.pairs ++ (map repeated_line land.land.repeats ++ map wrong_way_line land.land.wrong_way))) in
        land.told
        ∙ ap (λ (xs : List CoastLine). xs ++ r) (unclosed ∙ ap (λ (xs : List CoastLine). xs ++ u) (joins.told ∙ ap (λ (xs : List CoastLine). xs ++ (b ++ c)) asides))
        ∙ in_a_row start a b c u r;
  }

  pub shore_made : (shore : Shore) (start : List CoastLine) → start ≡ [] → MakesCoast settings input shore.land start shore.lines.items → IsShoreOf settings input shore
  shore_made shore start none made =
      let told : shore.lines.items ≡ coast_lines made.coast = made.told ∙ ap (λ (xs : List CoastLine). xs ++ coast_lines made.coast) none in
      record {
        coast = made.coast;
        is_coast = made.is_coast;
        land = made.has;
        whole = subst (λ (es : List Edge). All IsWholeSegment es) (sym made.has) made.is_coast.land.edges.whole;
        sided = subst IsSided (sym made.has) made.is_coast.land.edges.sided;
        told = told;
        kinds = subst (λ (ls : List CoastLine). All HasItsKind ls) (sym told) (lines_of_kind (all_segments made.coast.joined.rings) made.coast (pairs_told settings.cut_crossings made.coast.joined.rings made.coast.sorted made.is_coast.sorted));
      }

  pub outlines_made : (shore : Shore) → IsShoreOf settings input shore → (outlines : Outlines) (land_asked water_asked : Bool) → land_asked ≡ has_land settings.polygons → water_asked ≡ has_water settings.polygons →
      (polygons : List Polygon) × AreLand land_asked shore.land polygons × AreEdgesOf polygons outlines.land.items →
      (polygons : List Polygon) × AreWater water_asked shore.land polygons × AreEdgesOf polygons outlines.water.items →
      outlines.lines.items ≡ shore.lines.items → AreOutlinesOf settings input outlines
  outlines_made shore is outlines land_asked water_asked asks_land asks_water land water told = record {
    coast = is.coast;
    is_coast = is.is_coast;
    land = land.0;
    land_right = subst (λ (es : List Edge). AreLand (has_land settings.polygons) es land.0) is.land (subst (λ (asked : Bool). AreLand asked shore.land land.0) asks_land land.1);
    land_edges = land.2;
    water = water.0;
    water_right = subst (λ (es : List Edge). AreWater (has_water settings.polygons) es water.0) is.land (subst (λ (asked : Bool). AreWater asked shore.land water.0) asks_water water.1);
    water_edges = water.2;
    told = told ∙ is.told;
    kinds = subst (λ (ls : List CoastLine). All HasItsKind ls) (sym told) is.kinds;
  }
