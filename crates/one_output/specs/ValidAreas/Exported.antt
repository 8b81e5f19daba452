-- The output of an export: a header, features with the text around each, a footer; and what each feature spells.
use Rattle.std.specs.Prelude.{All, List, Option, [], codes, map, true, ℕ, ◌+◌, ◌++◌, ◌∷◌, ◌≡◌}
use Rattle.std.specs.List.{AllZip, filter}
use Rattle.osm_elements.specs.declared.object.Object.{Object}
use Rattle.osm_elements.specs.declared.object.ObjectRef.{ObjectRef}
use Rattle.osm_elements.specs.declared.object.Tag.{Tag}
use Rattle.osm_area.specs.Outcome.{polygons_in}
use Rattle.osm_job.specs.Prefix.{IsPrefix}
use Rattle.osm_job.specs.Sent.{output_of}
use Rattle.osm_job.specs.Whole.{Whole}
use Rattle.osm_job.specs.declared.ended.Ended.{Ended}
use Rattle.osm_job.specs.declared.ended.Ended.TheVariants.{Done, Stopped}
use Rattle.osm_nest.specs.Polygons.{polygon_times}
use Rattle.osm_objects.specs.Candidates.{candidates}
use Rattle.osm_text.specs.Feature.{id_before, tags_text}
use Rattle.osm_text.specs.GeoJson.{id_member}
use Rattle.osm_text.specs.Properties.{properties_text}
use Rattle.osm_text.specs.declared.feature_id.FeatureId.{FeatureId}
use Rattle.osm_words.specs.Job.{ExportSettings}
use Rattle.osm_words.specs.declared.settings.Format.{Format}
use Rattle.osm_words.specs.declared.settings.Format.TheVariants.{GeoJson, GeoJsonSeq, Text}
use Rattle.job_export.specs.Choice.{choice_of}
use Rattle.job_export.specs.Entry.{Entry, IsEntry, has_area}
use Rattle.job_export.specs.Framing.{footer, framed, header}
use Rattle.one_output.specs.ValidAreas.Spelled.{Notation, SpellsMultiPolygon, SpellsValidArea, geo_json, well_known}

-- ---- one feature

abbrev pub notation_of : Format → Notation
notation_of GeoJson = geo_json
notation_of GeoJsonSeq = geo_json
notation_of Text = well_known

-- a GeoJSON feature up to the coordinates of its geometry
abbrev pub json_before : Option FeatureId → List ℕ
json_before id = codes "{\"type\":\"Feature\"," ++ id_member id ++ codes "\"geometry\":{\"type\":\"MultiPolygon\",\"coordinates\":"

-- the rest of the feature, after the coordinates
abbrev pub json_after : List Tag → List ℕ
json_after tags = codes "},\"properties\":" ++ properties_text tags ++ codes "}"

-- the text of a feature before the coordinates of its geometry
abbrev pub before_coordinates : Format → Option FeatureId → List ℕ
before_coordinates GeoJson id = json_before id
before_coordinates GeoJsonSeq id = json_before id
before_coordinates Text id = id_before id ++ codes "MULTIPOLYGON"

-- the text after the coordinates
abbrev pub after_coordinates : Format → List Tag → List ℕ
after_coordinates GeoJson tags = json_after tags
after_coordinates GeoJsonSeq tags = json_after tags
after_coordinates Text tags = tags_text tags ++ codes "\n"

-- A feature of an entry with an area: its coordinates spell the area's polygons, and these are valid.
pub record IsFeatureOf (format : Format) (entry : Entry) (feature : List ℕ) : Type 0 where
  pub id : Option FeatureId
  pub tags : List Tag
  pub coordinates : List ℕ
  pub text : feature ≡ before_coordinates format id ++ coordinates ++ after_coordinates format tags
  pub own : SpellsMultiPolygon (notation_of format) coordinates (map (polygon_times 1) (polygons_in entry.outcome))
  pub valid : SpellsValidArea (notation_of format) coordinates

-- ---- all that goes out

-- features after `earlier` others, each with the text around it
abbrev pub framed_features : ExportSettings → ℕ → List (List ℕ) → List ℕ
framed_features settings earlier [] = []
framed_features settings earlier (feature ∷ features) = framed settings earlier feature ++ framed_features settings (earlier + 1) features

-- All candidates have entries, and the footer follows the features; or the run stopped at a candidate, and nothing follows.
pub data IsEndOfOutput (settings : ExportSettings) (objects : List Object) (entries : List Entry) (ended : Ended) (end : List ℕ) : Type 0 where
  finished : ended ≡ Done → map (λ entry. entry.candidate) entries ≡ candidates (choice_of settings) objects →
      end ≡ footer settings.format → IsEndOfOutput settings objects entries ended end
  stopped : (candidate : ObjectRef) → ended ≡ Stopped candidate → settings.stop_on_error ≡ true →
      IsPrefix (map (λ entry. entry.candidate) entries) (candidates (choice_of settings) objects) →
      end ≡ [] → IsEndOfOutput settings objects entries ended end

-- The output is the header, then a feature for each entry with an area, in order, and no others, and then its end.
-- Each feature spells the polygons of its entry, a valid MultiPolygon.
pub record HasValidFeatures (settings : ExportSettings) (objects : List Object) (whole : Whole) : Type 0 where
  pub entries : List Entry
  pub right : All (IsEntry settings.show_errors objects) entries
  pub features : List (List ℕ)
  pub each : AllZip (IsFeatureOf settings.format) (filter has_area entries) features
  pub end : List ℕ
  pub ends : IsEndOfOutput settings objects entries whole.ended end
  pub output : output_of whole.written ≡ header settings.format ++ framed_features settings 0 features ++ end
