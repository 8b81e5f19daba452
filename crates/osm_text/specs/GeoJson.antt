-- Features of GeoJSON (RFC 7946), their coordinates in degrees.
use Rattle.std.specs.Prelude.{ℕ, List, [], ◌++◌, Option, Some, None, map, take, codes}
use Rattle.std.specs.List.{join_with_byte}
use Rattle.osm_elements.specs.declared.object.Tag.{Tag}
use Rattle.osm_lattice.specs.declared.loc.Loc.{Loc}
use Rattle.osm_text.specs.declared.feature_id.FeatureId.{FeatureId}
use Rattle.osm_text.specs.declared.feature_id.FeatureId.TheVariants.{Counter, Area}
use Rattle.osm_notation.specs.Decimal.{units_text}
use Rattle.osm_text.specs.Id.{id_text}
use Rattle.osm_text.specs.Properties.{properties_text}

-- texts in brackets, parted by commas
abbrev pub in_brackets : List (List ℕ) → List ℕ
in_brackets texts = codes "[" ++ join_with_byte 44 texts ++ codes "]"

-- a position: longitude and latitude
abbrev pub position_json : Loc → List ℕ
position_json p = codes "[" ++ units_text p.x ++ codes "," ++ units_text p.y ++ codes "]"

-- a ring: its positions in order, the first again at the end
abbrev pub ring_json : List Loc → List ℕ
ring_json ring = in_brackets (map position_json (ring ++ take 1 ring))

-- a polygon: its rings in order, the outer one first
abbrev pub polygon_json : List (List Loc) → List ℕ
polygon_json rings = in_brackets (map ring_json rings)

-- the coordinates of several polygons
abbrev pub multipolygon_json : List (List (List Loc)) → List ℕ
multipolygon_json polygons = in_brackets (map polygon_json polygons)

-- where there is an id, the member of the id and a comma: a counter is a number, an area's id a string
abbrev pub id_member : Option FeatureId → List ℕ
id_member None = []
id_member (Some (Counter number)) = codes "\"id\":" ++ id_text (Counter number) ++ codes ","
id_member (Some (Area id)) = codes "\"id\":\"" ++ id_text (Area id) ++ codes "\","

-- a feature: its id, its polygons, each a list of rings, and its tags as properties
abbrev pub feature_json : Option FeatureId → List (List (List Loc)) → List Tag → List ℕ
feature_json id polygons tags =
    codes "{\"type\":\"Feature\"," ++ id_member id ++ codes "\"geometry\":{\"type\":\"MultiPolygon\",\"coordinates\":" ++ multipolygon_json polygons
    ++ codes "},\"properties\":" ++ properties_text tags ++ codes "}"
