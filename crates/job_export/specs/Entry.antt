-- What a candidate with its outcome adds to the output and to the report.
use Rattle.std.specs.Prelude.{◌≡◌, ℕ, Bool, true, false, List, [], ◌∷◌, ◌++◌, ◌+◌, map, Option}
use Rattle.std.specs.List.{flat_map}
use Rattle.osm_elements.specs.declared.object.Object.{Object}
use Rattle.osm_elements.specs.declared.object.ObjectRef.{ObjectRef}
use Rattle.osm_elements.specs.declared.object.Tag.{Tag}
use Rattle.osm_objects.specs.declared.problem.Problem.{Problem}
use Rattle.osm_objects.specs.Objects.{object_at}
use Rattle.osm_area.specs.declared.outcome.Outcome.{Outcome}
use Rattle.osm_area.specs.declared.outcome.Outcome.TheVariants.{Area, Problems}
use Rattle.osm_area.specs.Feature.{feature_tags}
use Rattle.osm_area.specs.Outcome.{IsOutcome}
use Rattle.osm_nest.specs.declared.polygon.Polygon.{Polygon}
use Rattle.osm_text.specs.Paths.{paths_of}
use Rattle.osm_text.specs.declared.feature_id.FeatureId.{FeatureId}
use Rattle.osm_text.specs.Feature.{feature_text}
use Rattle.osm_text.specs.GeoJson.{feature_json}
use Rattle.osm_text.specs.Id.{feature_id}
use Rattle.osm_text.specs.Report.{IsProblemLine, note_line}
use Rattle.osm_words.specs.Job.{ExportSettings}
use Rattle.osm_words.specs.declared.settings.Format.{Format}
use Rattle.osm_words.specs.declared.settings.Format.TheVariants.{GeoJson, GeoJsonSeq, Text}
use Rattle.job_export.specs.Framing.{framed}
use Rattle.osm_job.specs.Sent.{Sent, to_output, to_report}

-- ---- output

abbrev pub feature_in : Format → Option FeatureId → List Polygon → List Tag → List ℕ
feature_in Text id polygons tags = feature_text id (paths_of polygons) tags
feature_in GeoJson id polygons tags = feature_json id (paths_of polygons) tags
feature_in GeoJsonSeq id polygons tags = feature_json id (paths_of polygons) tags

-- the feature of an area with the text around it; nothing if there are problems
abbrev pub framed_feature : ExportSettings → List Object → ℕ → ObjectRef → Outcome → List ℕ
framed_feature settings objects earlier candidate (Area polygons notes) =
    framed settings earlier (feature_in settings.format (feature_id settings.ids (earlier + 1) candidate) polygons (feature_tags (object_at objects candidate)))
framed_feature settings objects earlier candidate (Problems list notes) = []

-- an area has one feature
abbrev pub features_in : Outcome → ℕ
features_in (Area polygons notes) = 1
features_in (Problems list notes) = 0

-- ---- report

-- the lines of problems, one after the other
abbrev pub AreProblemLines : ObjectRef → List Problem → List ℕ → Type 0
AreProblemLines candidate [] text = text ≡ []
AreProblemLines candidate (problem ∷ problems) text =
    (line : List ℕ) × (rest : List ℕ) × IsProblemLine candidate problem line
    × AreProblemLines candidate problems rest × (text ≡ line ++ rest)

-- the report lines of a candidate: problems before notes
abbrev pub IsReport : ObjectRef → Outcome → List ℕ → Type 0
IsReport candidate (Area polygons notes) text = text ≡ flat_map (note_line candidate) notes
IsReport candidate (Problems list notes) text =
    (lines : List ℕ) × AreProblemLines candidate list lines × (text ≡ lines ++ flat_map (note_line candidate) notes)

-- the report of a candidate, if report lines are asked for
abbrev pub IsReportShown : Bool → ObjectRef → Outcome → List ℕ → Type 0
IsReportShown true candidate outcome text = IsReport candidate outcome text
IsReportShown false candidate outcome text = text ≡ []

-- ---- both

-- a candidate with its outcome and its report lines
pub record Entry : Type 0 where
  pub candidate : ObjectRef
  pub outcome : Outcome
  pub report : List ℕ

-- the outcome is the candidate's, and the report is its lines
pub record IsEntry (show_errors : Bool) (objects : List Object) (entry : Entry) : Type 0 where
  pub right : IsOutcome objects entry.candidate entry.outcome
  pub reported : IsReportShown show_errors entry.candidate entry.outcome entry.report

-- a candidate has an area or problems
abbrev pub area_in : Outcome → Bool
area_in (Area polygons notes) = true
area_in (Problems list notes) = false

abbrev pub has_area : Entry → Bool
has_area entry = area_in entry.outcome

-- what an entry adds after `earlier` features: its feature, then its report lines
abbrev pub entry_sent : ExportSettings → List Object → ℕ → Entry → List Sent
entry_sent settings objects earlier entry =
    map to_output (framed_feature settings objects earlier entry.candidate entry.outcome) ++ map to_report entry.report

-- what entries add, in order
abbrev pub entries_sent : ExportSettings → List Object → ℕ → List Entry → List Sent
entries_sent settings objects earlier [] = []
entries_sent settings objects earlier (entry ∷ entries) =
    entry_sent settings objects earlier entry
    ++ entries_sent settings objects (earlier + features_in entry.outcome) entries
