-- Well-known text of rings and polygons, in degrees.
use Rattle.std.specs.Prelude.{ℕ, List, ◌++◌, map, take, codes}
use Rattle.std.specs.List.{join_with_byte}
use Rattle.osm_lattice.specs.declared.loc.Loc.{Loc}
use Rattle.osm_notation.specs.Coordinates.{point_text}

-- texts in parentheses, parted by commas
abbrev pub in_parentheses : List (List ℕ) → List ℕ
in_parentheses texts = codes "(" ++ join_with_byte 44 texts ++ codes ")"

-- a ring: its points in order, the first again at the end
abbrev pub ring_wkt : List Loc → List ℕ
ring_wkt ring = in_parentheses (map point_text (ring ++ take 1 ring))

-- a polygon: its rings in order, the outer one first
abbrev pub polygon_wkt : List (List Loc) → List ℕ
polygon_wkt rings = in_parentheses (map ring_wkt rings)

-- several polygons
abbrev pub multipolygon_wkt : List (List (List Loc)) → List ℕ
multipolygon_wkt polygons = codes "MULTIPOLYGON" ++ in_parentheses (map polygon_wkt polygons)
