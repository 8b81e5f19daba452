-- What a printed feature is: its coordinates spell its area.
use Rattle.std.proofs.Common.{List, Option, [], ap, append_assoc, codes, map, sym, ℕ, ◌++◌, ◌∙◌, ◌≡◌, ◌≢◌}
use Rattle.osm_elements.specs.declared.object.Tag.{Tag}
use Rattle.osm_area.specs.Outcome.{polygons_in}
use Rattle.osm_lattice.specs.declared.loc.Loc.{Loc}
use Rattle.osm_nest.specs.declared.polygon.Polygon.{Polygon}
use Rattle.osm_nest.specs.Polygons.{polygon_times}
use Rattle.osm_text.specs.Feature.{feature_text, id_before, tags_text}
use Rattle.osm_text.specs.GeoJson.{feature_json}
use Rattle.osm_text.specs.Paths.{paths_of}
use Rattle.osm_text.specs.Properties.{properties_text}
use Rattle.osm_text.specs.declared.feature_id.FeatureId.{FeatureId}
use Rattle.osm_words.specs.declared.settings.Format.{Format}
use Rattle.osm_words.specs.declared.settings.Format.TheVariants.{GeoJson, GeoJsonSeq, Text}
use Rattle.job_export.specs.Entry.{Entry, feature_in}
use Rattle.one_output.specs.ValidAreas.Exported.{IsFeatureOf, after_coordinates, before_coordinates, json_after, json_before, notation_of}
use Rattle.one_output.specs.ValidAreas.Spelled.{geo_json, well_known}
use Rattle.one_output.specs.ValidAreas.ValidArea.{IsValidArea}
use Rattle.one_output.proofs.ValidAreas.Printed.{area-spelled, area_text}

json-parts : (id : Option FeatureId) (areas : List (List (List Loc))) (tags : List Tag) → feature_json id areas tags ≡ json_before id ++ area_text geo_json areas ++ json_after tags
json-parts id areas tags =
    let front = json_before id ++ area_text geo_json areas in
    ap (λ (text : List ℕ). text ++ codes "}") (append_assoc front (codes "},\"properties\":") (properties_text tags))
    ∙ append_assoc front (codes "},\"properties\":" ++ properties_text tags) (codes "}")

text-parts : (id : Option FeatureId) (areas : List (List (List Loc))) (tags : List Tag) → feature_text id areas tags ≡ before_coordinates Text id ++ area_text well_known areas ++ after_coordinates Text tags
text-parts id areas tags =
    ap (λ (text : List ℕ). text ++ tags_text tags ++ codes "\n") (sym (append_assoc (id_before id) (codes "MULTIPOLYGON") (area_text well_known areas)))
    ∙ append_assoc (before_coordinates Text id ++ area_text well_known areas) (tags_text tags) (codes "\n")

feature-parts : (format : Format) (id : Option FeatureId) (polygons : List Polygon) (tags : List Tag) →
    feature_in format id polygons tags ≡ before_coordinates format id ++ area_text (notation_of format) (paths_of polygons) ++ after_coordinates format tags
feature-parts GeoJson id polygons tags = json-parts id (paths_of polygons) tags
feature-parts GeoJsonSeq id polygons tags = json-parts id (paths_of polygons) tags
feature-parts Text id polygons tags = text-parts id (paths_of polygons) tags

pub feature-of : (format : Format) (id : Option FeatureId) (tags : List Tag) (entry : Entry) → polygons_in entry.outcome ≢ [] → IsValidArea (polygons_in entry.outcome) →
    IsFeatureOf format entry (feature_in format id (polygons_in entry.outcome) tags)
feature-of format id tags entry some area =
    let polygons = polygons_in entry.outcome in
    let spelled = area-spelled (notation_of format) polygons some area in
    record {
      id = id;
      tags = tags;
      coordinates = area_text (notation_of format) (paths_of polygons);
      text = feature-parts format id polygons tags;
      own = spelled;
      valid = (map (polygon_times 1) polygons, spelled, area.valid);
    }
