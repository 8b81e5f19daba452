-- What surviving segments make. No public contract cites this.
use Rattle.std.specs.Prelude.{◌≡◌, ◌≢◌, List, [], All, Option, None, Some}
use Rattle.osm_lattice.specs.declared.seg.Seg.{Seg}
use Rattle.osm_elements.specs.declared.object.Object.{Object}
use Rattle.osm_elements.specs.declared.object.ObjectRef.{ObjectRef}
use Rattle.osm_geom.specs.WholeSegment.{IsWholeSegment}
use Rattle.osm_nest.specs.declared.polygon.Polygon.{Polygon}
use Rattle.osm_nest.specs.Nested.{HasKinds}
use Rattle.osm_nest.specs.Polygons.{rings_of}
use Rattle.osm_segments.specs.Counts.{AreSurvivors}
use Rattle.osm_segments.specs.Outlines.{IsOutline}
use Rattle.osm_area.specs.Area.{IsArea}
use Rattle.osm_area.specs.Problems.{SurvivorsAre}
use Rattle.osm_area.specs.Segments.{candidate_segments}
use Rattle.osm_area.specs.Sound.{IsSound}
use Rattle.osm_area.specs.declared.area.Made.{Made}
use Rattle.osm_area.specs.declared.area.Made.TheVariants.{Area, Nothing, Faulty}

-- the polygons of an area
pub record AreMade (survivors : List Seg) (polygons : List Polygon) : Type 0 where
  pub some : survivors ≢ []
  pub outline : IsOutline survivors
  pub area : IsArea survivors polygons
  pub kinds : All HasKinds polygons
  pub whole : All (All IsWholeSegment) (rings_of polygons)

-- an area, if there are segments and they are an outline; otherwise what they are
abbrev pub IsMade : List Seg → Made → Type 0
IsMade survivors (Area polygons) = AreMade survivors polygons
IsMade survivors Nothing = survivors ≡ []
IsMade survivors (Faulty left) = (survivors ≢ []) × (left.items ≡ survivors) × (IsOutline survivors → ⊥)

-- the outline that survives of these segments; none if no segment or no outline survives
abbrev pub IsOutlineAmong : List Seg → Option (List Seg) → Type 0
IsOutlineAmong segs None = SurvivorsAre segs (λ survivors. survivors ≢ [] → IsOutline survivors → ⊥)
IsOutlineAmong segs (Some outline) = AreSurvivors segs outline × (outline ≢ []) × IsOutline outline

-- the candidate is sound, and its surviving segments make these polygons; none if it isn't sound
abbrev pub IsMadeBy : List Object → ObjectRef → Option (List Polygon) → Type 0
IsMadeBy objects candidate None = IsSound objects candidate → ⊥
IsMadeBy objects candidate (Some polygons) =
    IsSound objects candidate × SurvivorsAre (candidate_segments objects candidate) (λ survivors. IsArea survivors polygons)
