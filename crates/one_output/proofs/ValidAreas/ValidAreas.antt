-- The polygons of a sound candidate's area are those of a sided list of whole segments.
use Rattle.std.proofs.Common.{All, List, [], map, subst, ◌≡◌}
use Rattle.std.proofs.lemmas.List.Elements.{All-nil}
use Rattle.lists.specs.Rising.{IsRising}
use Rattle.osm_elements.specs.declared.object.ObjectRef.{ObjectRef}
use Rattle.osm_area.specs.Area.{IsArea}
use Rattle.osm_area.specs.Missing.{missing}
use Rattle.osm_area.specs.Problems.{SurvivorsAre}
use Rattle.osm_area.specs.Segments.{candidate_segments}
use Rattle.osm_area.specs.Sound.{IsSoundGiven}
use Rattle.osm_area.specs.declared.outcome.Outcome.TheVariants as outcome
use Rattle.osm_area.proofs.SoundAreas.{no-problems, survivors-one}
use Rattle.osm_geom.specs.WholeSegment.{IsWholeSegment}
use Rattle.osm_lattice.specs.Seg.{seg_cmp}
use Rattle.osm_lattice.specs.declared.seg.Seg.{Seg}
use Rattle.osm_nest.specs.declared.polygon.Polygon.{Polygon}
use Rattle.osm_nest.specs.Polygons.{polygon_times}
use Rattle.osm_segments.specs.Pairs.{conflicts_of}
use Rattle.osm_sides.specs.Laws.{DirectedAreWhole}
use Rattle.osm_segments.specs.Counts.{HasEvenNodes}
use Rattle.osm_sides.proofs.DirectedSides.{directed_is_sided}
use Rattle.plane_lists.specs.Valid.Valid.{IsValidMultiPolygon}
use Rattle.one_output.specs.ValidAreas.Laws.{AreasAreValid}
use Rattle.one_output.specs.ValidAreas.ValidArea.{IsValidArea}
use Rattle.osm_nest.specs.ValidPolygons.Laws.{NestedPolygonsAreValid}
use Rattle.osm_nest.proofs.ValidPolygons.WholePolygons.{common-whole, nested-whole}

no-polygons : IsValidMultiPolygon []
no-polygons = record {
  polygons = λ g i. absurd i;
  apart = tt;
  touching = tt;
  regular = λ e i. absurd i;
  parts = λ k hk p q x y. absurd (cc x.once);
}

-- by the laws of directed segments and of nested polygons
module _ (along : DirectedAreWhole) (valid : NestedPolygonsAreValid) where
  area-valid : (survivors : List Seg) (polygons : List Polygon) → IsRising seg_cmp survivors → conflicts_of survivors ≡ [] → HasEvenNodes survivors → IsArea survivors polygons → IsValidArea polygons
  area-valid survivors polygons rising clear even area =
      let sided = directed_is_sided survivors area.edges rising clear even area.directed in
      let whole = along survivors area.edges area.directed in
      record {
        whole = nested-whole area.edges whole area.made.rings area.made.cut polygons area.made.nested;
        valid = subst (λ m. IsValidMultiPolygon (map (polygon_times m) polygons)) (common-whole area.edges whole) (valid area.edges sided area.made.rings area.made.cut polygons area.made.nested);
      }

  sound-valid : (missing : List ObjectRef) (segs : List Seg) (polygons : List Polygon) → IsSoundGiven missing segs → SurvivorsAre segs (λ survivors. IsArea survivors polygons) → IsValidArea polygons
  sound-valid missing segs polygons sound are =
      area-valid sound.survivors polygons sound.survive.rising sound.clear sound.even
      (subst (λ survivors. IsArea survivors polygons) (survivors-one segs are.0 sound.survivors are.1.0 sound.survive) are.1.1)

  pub valid-in : AreasAreValid
  valid-in objects candidate (outcome.Area polygons notes) is =
      sound-valid (missing objects candidate) (candidate_segments objects candidate) polygons (no-problems (missing objects candidate) (candidate_segments objects candidate) is.0) is.1
  valid-in objects candidate (outcome.Problems list notes) is = record { whole = All-nil (All IsWholeSegment); valid = no-polygons }
