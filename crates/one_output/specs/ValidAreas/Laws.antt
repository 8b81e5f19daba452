-- The areas are valid, and so are the features written for them, as statements.
use Rattle.std.specs.Prelude.{List, Ok, ℕ, ◌≡◌}
use Rattle.plane_lists.specs.Rings.Polygon.{Polygon}
use Rattle.osm_elements.specs.declared.object.Object.{Object}
use Rattle.osm_elements.specs.declared.object.ObjectRef.{ObjectRef}
use Rattle.osm_area.specs.Outcome.{IsOutcome, polygons_in}
use Rattle.osm_area.specs.declared.outcome.Outcome.{Outcome}
use Rattle.osm_cli.specs.Job.{inputs_of}
use Rattle.osm_cli.specs.Run.{Writes}
use Rattle.osm_cli.specs.Whole.{IsWhole}
use Rattle.osm_host.specs.Outside.{Outside}
use Rattle.osm_job.specs.Cause.{cause_of}
use Rattle.osm_job.specs.Texts.{Texts, told_texts}
use Rattle.osm_job.specs.Whole.{IsReadThen, Whole}
use Rattle.osm_job.specs.Written.{IsWrittenBy}
use Rattle.osm_job.specs.declared.ended.Ended.{Ended}
use Rattle.osm_words.specs.Job.{ExportSettings, export}
use Rattle.job_export.specs.Export.{IsExport}
use Rattle.one_output.specs.ValidAreas.Exported.{HasValidFeatures}
use Rattle.one_output.specs.ValidAreas.Spelled.{Notation, SpellsMultiPolygon}
use Rattle.one_output.specs.ValidAreas.ValidArea.{IsValidArea}

-- the polygons of an area that is right are a valid MultiPolygon
abbrev pub AreasAreValid : Type 0
AreasAreValid =
    (objects : List Object) (candidate : ObjectRef) (outcome : Outcome) → IsOutcome objects candidate outcome →
    IsValidArea (polygons_in outcome)

-- in the bytes that are right for an export of objects, each feature spells a valid MultiPolygon
abbrev pub ExportedFeaturesAreValid : Type 0
ExportedFeaturesAreValid =
    (settings : ExportSettings) (objects : List Object) (whole : Whole) → IsExport settings objects whole →
    HasValidFeatures settings objects whole

-- What is right for a run with the words of an export is that over the objects of the input; or the input is refused, and
-- nothing is output.
abbrev pub RightFeaturesAreValid : Type 0
RightFeaturesAreValid =
    (settings : ExportSettings) (texts : Texts (inputs_of (export settings))) (whole : Whole) → IsWhole (export settings) texts whole →
    IsReadThen (HasValidFeatures settings) texts.0 whole

-- A run with these words writes all of that, or a prefix of it if a call failed or memory ran out.
abbrev pub WrittenFeaturesAreValid : Type 0
WrittenFeaturesAreValid =
    (settings : ExportSettings) (ended : Ended) (before after : Outside) (run : Writes (Ok (export settings)) ended before after) →
    IsWrittenBy (λ (texts : Texts (inputs_of (export settings))). IsReadThen (HasValidFeatures settings) texts.0) (cause_of ended)
    (told_texts before.named (inputs_of (export settings))) ended run.written

-- a text spells at most one list of polygons
abbrev pub SpelledIsOne : Type 0
SpelledIsOne =
    (notation : Notation) (text : List ℕ) (polygons others : List Polygon) → SpellsMultiPolygon notation text polygons →
    SpellsMultiPolygon notation text others → polygons ≡ others
