-- The two notations of polygons, as the functions that print them see them. No public contract cites it.
use Rattle.std.specs.Prelude.{ℕ, List, map}
use Rattle.osm_lattice.specs.declared.loc.Loc.{Loc}
use Rattle.osm_text.specs.declared.notation.Notation.{Notation}
use Rattle.osm_text.specs.declared.notation.Notation.TheVariants.{WellKnown, Json}
use Rattle.osm_text.specs.GeoJson.{position_json, ring_json, polygon_json, multipolygon_json}
use Rattle.osm_notation.specs.Coordinates.{point_text}
use Rattle.osm_text.specs.Wkt.{in_parentheses, ring_wkt, polygon_wkt}

-- the bytes around a list
abbrev pub open_of : Notation → ℕ
open_of WellKnown = 40
open_of Json = 91

abbrev pub close_of : Notation → ℕ
close_of WellKnown = 41
close_of Json = 93

abbrev pub point_in : Notation → Loc → List ℕ
point_in WellKnown point = point_text point
point_in Json point = position_json point

abbrev pub ring_in : Notation → List Loc → List ℕ
ring_in WellKnown ring = ring_wkt ring
ring_in Json ring = ring_json ring

abbrev pub polygon_in : Notation → List (List Loc) → List ℕ
polygon_in WellKnown rings = polygon_wkt rings
polygon_in Json rings = polygon_json rings

-- the list of polygons, in WKT what stands behind the word
abbrev pub polygon_list_text : Notation → List (List (List Loc)) → List ℕ
polygon_list_text WellKnown polygons = in_parentheses (map polygon_wkt polygons)
polygon_list_text Json polygons = multipolygon_json polygons
