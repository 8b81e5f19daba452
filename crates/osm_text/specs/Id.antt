-- Ids of features.
use Rattle.std.specs.Prelude.{ℕ, List, ◌++◌, codes, decimal, Option, None, Some, option_map}
use Rattle.std.specs.Fmt.{signed_decimal}
use Rattle.osm_elements.specs.declared.object.ObjectRef.{ObjectRef}
use Rattle.osm_objects.specs.declared.area.UniqueId.{UniqueId}
use Rattle.osm_objects.specs.declared.area.UniqueId.TheVariants as unique
use Rattle.osm_objects.specs.AreaIds.{area_id}
use Rattle.osm_text.specs.declared.feature_id.FeatureId.{FeatureId}
use Rattle.osm_text.specs.declared.feature_id.FeatureId.TheVariants.{Counter, Area}

-- none, the place of the feature from 1, or the id of the candidate's area
abbrev pub feature_id : Option UniqueId → ℕ → ObjectRef → Option FeatureId
feature_id None counter candidate = None
feature_id (Some unique.Counter) counter candidate = Some (Counter counter)
feature_id (Some unique.TypeId) counter candidate = option_map Area (area_id candidate)

-- a counter by its digits; an area's id, with its sign, behind the letter a
abbrev pub id_text : FeatureId → List ℕ
id_text (Counter number) = decimal number
id_text (Area id) = codes "a" ++ signed_decimal id
