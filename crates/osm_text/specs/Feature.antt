-- A feature of the format text, a line.
use Rattle.std.specs.Prelude.{ℕ, List, [], ◌∷◌, ◌++◌, Option, Some, None, map, codes}
use Rattle.std.specs.List.{join_with_byte}
use Rattle.osm_elements.specs.declared.object.Tag.{Tag}
use Rattle.osm_lattice.specs.declared.loc.Loc.{Loc}
use Rattle.osm_text.specs.declared.feature_id.FeatureId.{FeatureId}
use Rattle.osm_text.specs.Id.{id_text}
use Rattle.osm_text.specs.Wkt.{multipolygon_wkt}
use Rattle.osm_notation.specs.Written.{tag_text}

-- where there is an id, the id and a space
abbrev pub id_before : Option FeatureId → List ℕ
id_before None = []
id_before (Some id) = id_text id ++ codes " "

-- where there are tags, a space and the tags parted by commas
abbrev pub tags_text : List Tag → List ℕ
tags_text [] = []
tags_text (tag ∷ tags) = codes " " ++ join_with_byte 44 (map tag_text (tag ∷ tags))

-- the line of a feature: its id, its polygons, each a list of rings, and its tags in order
abbrev pub feature_text : Option FeatureId → List (List (List Loc)) → List Tag → List ℕ
feature_text id polygons tags = id_before id ++ multipolygon_wkt polygons ++ tags_text tags ++ codes "\n"
