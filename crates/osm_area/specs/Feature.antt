-- What a feature has of its candidate.
use Rattle.std.specs.Prelude.{List, [], Option, None, Some}
use Rattle.osm_elements.specs.declared.object.Object.{Object}
use Rattle.osm_elements.specs.declared.object.Tag.{Tag}
use Rattle.osm_objects.specs.Candidates.{area_tags}

-- the tags of a candidate's area
abbrev pub feature_tags : Option Object → List Tag
feature_tags None = []
feature_tags (Some object) = area_tags object
