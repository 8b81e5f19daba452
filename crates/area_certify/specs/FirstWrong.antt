-- Right lines of a text of areas in format text, and the first that isn't right.
use Rattle.std.specs.Prelude.{◌≡◌, ◌<◌, ◌+◌, ◌++◌, ℕ, List, length, slice_get, codes, Option, Some}
use Rattle.osm_elements.specs.declared.object.Object.{Object}
use Rattle.osm_elements.specs.declared.object.ObjectRef.{ObjectRef}
use Rattle.osm_objects.specs.declared.choice.Choice.{Choice}
use Rattle.osm_objects.specs.declared.problem.Note.{Note}
use Rattle.osm_objects.specs.Candidates.{candidates}
use Rattle.osm_objects.specs.Objects.{object_at}
use Rattle.osm_area.specs.declared.outcome.Outcome.TheVariants.{Area}
use Rattle.osm_area.specs.Feature.{feature_tags}
use Rattle.osm_area.specs.Outcome.{IsOutcome}
use Rattle.osm_nest.specs.declared.polygon.Polygon.{Polygon}
use Rattle.osm_text.specs.Feature.{feature_text}
use Rattle.osm_text.specs.Id.{feature_id}
use Rattle.osm_text.specs.Paths.{paths_of}
use Rattle.osm_objects.specs.declared.area.UniqueId.{UniqueId}
use Rattle.area_certify.specs.Areas.{AreThoseWithAreas}
use Rattle.area_certify.specs.Lines.{text_lines}

-- ---- a right line

-- the line, with its LF, is the feature of the candidate's area over some polygons that the area may have
pub record IsFeature (ids : Option UniqueId) (objects : List Object) (counter : ℕ) (candidate : ObjectRef) (line : List ℕ) : Type 0 where
  pub polygons : List Polygon
  pub notes : List Note
  pub right : IsOutcome objects candidate (Area polygons notes)
  pub whole : line ≡ feature_text (feature_id ids counter candidate) (paths_of polygons) (feature_tags (object_at objects candidate))

abbrev pub EndsInNewline : List ℕ → Type 0
EndsInNewline line = (front : List ℕ) × (line ≡ front ++ codes "\n")

-- the line after `earlier` others is right: it is the feature of the next candidate with an area
pub record IsRightLine (ids : Option UniqueId) (objects : List Object) (areas : List ObjectRef) (earlier : ℕ) (line : List ℕ) : Type 0 where
  pub candidate : ObjectRef
  pub place : slice_get areas earlier ≡ Some candidate
  pub ended : EndsInNewline line
  pub feature : IsFeature ids objects (earlier + 1) candidate line

-- the first `count` lines are right
abbrev pub AreRight : Option UniqueId → List Object → List ObjectRef → List (List ℕ) → ℕ → Type 0
AreRight ids objects areas lines count = (k : ℕ) (line : List ℕ) → k < count → slice_get lines k ≡ Some line → IsRightLine ids objects areas k line

-- ---- all lines

-- all lines are right, and every candidate with an area has one
pub record HasNoWrong (ids : Option UniqueId) (objects : List Object) (areas : List ObjectRef) (lines : List (List ℕ)) : Type 0 where
  pub right : AreRight ids objects areas lines (length lines)
  pub as_many : length lines ≡ length areas

-- The first wrong line is the first that isn't right.
-- If all are right and fewer than the candidates with an area, it is the one after the last. Its number counts from 1.
pub data IsFirstWrong (ids : Option UniqueId) (objects : List Object) (areas : List ObjectRef) (lines : List (List ℕ)) (number : ℕ) : Type 0 where
  not_right : (earlier : ℕ) (line : List ℕ) → slice_get lines earlier ≡ Some line → (IsRightLine ids objects areas earlier line → ⊥) →
      AreRight ids objects areas lines earlier → number ≡ earlier + 1 → IsFirstWrong ids objects areas lines number
  lacking : AreRight ids objects areas lines (length lines) → length lines < length areas → number ≡ length lines + 1 →
      IsFirstWrong ids objects areas lines number

-- ---- a text, for the candidates that a choice takes among the objects of an input

abbrev pub HasNoWrongLine : Choice → Option UniqueId → List Object → List ℕ → Type 0
HasNoWrongLine choice ids objects text =
    (areas : List ObjectRef) × AreThoseWithAreas objects (candidates choice objects) areas × HasNoWrong ids objects areas (text_lines text)

abbrev pub IsFirstWrongLine : Choice → Option UniqueId → List Object → List ℕ → ℕ → Type 0
IsFirstWrongLine choice ids objects text number =
    (areas : List ObjectRef) × AreThoseWithAreas objects (candidates choice objects) areas × IsFirstWrong ids objects areas (text_lines text) number
