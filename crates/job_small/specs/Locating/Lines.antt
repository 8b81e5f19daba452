-- The line of a point: the point, and the areas that hold it or have it on them.
use Rattle.std.specs.Prelude.{Bool, true, false, ℕ, ℤ, List, [], ◌∷◌, ◌++◌, Option, None, Some, codes}
use Rattle.std.specs.Fmt.{signed_decimal}
use Rattle.std.specs.List.{flat_map}
use Rattle.osm_elements.specs.declared.object.ObjectRef.{ObjectRef}
use Rattle.osm_notation.specs.Coordinates.{point_text}
use Rattle.osm_objects.specs.AreaIds.{area_id}
use Rattle.area_locate.specs.declared.found.Found.{Found}
use Rattle.area_locate.specs.declared.found.Hit.{Hit}

-- an area's id after the letter a
abbrev pub area_id_text : Option ℤ → List ℕ
area_id_text None = []
area_id_text (Some id) = codes "a" ++ signed_decimal id

abbrev pub area_text : ObjectRef → List ℕ
area_text of = area_id_text (area_id of)

-- whether the point is on the area's boundary, or in the area off it
abbrev pub side_text : Bool → List ℕ
side_text true = codes " on "
side_text false = codes " in "

abbrev pub hit_text : Hit → List ℕ
hit_text hit = side_text hit.on ++ area_text hit.of

abbrev pub hits_text : List Hit → List ℕ
hits_text [] = codes " none"
hits_text (hit ∷ hits) = flat_map hit_text (hit ∷ hits)

abbrev pub point_line : Found → List ℕ
point_line found = point_text found.at ++ codes ":" ++ hits_text found.hits ++ codes "\n"

-- the lines of points, in order
abbrev pub point_lines : List Found → List ℕ
point_lines found = flat_map point_line found
