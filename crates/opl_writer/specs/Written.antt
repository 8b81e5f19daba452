-- Objects written as lines of OPL: an id, and after it the fields that aren't empty.
use Rattle.std.specs.Prelude.{ℕ, ℤ, List, [], ◌∷◌, ◌++◌, Option, Some, None, map, flat_map, codes}
use Rattle.std.specs.List.{join_with_byte}
use Rattle.std.specs.Fmt.{signed_decimal}
use Rattle.osm_lattice.specs.declared.loc.Loc.{Loc}
use Rattle.osm_elements.specs.declared.object.Tag.{Tag}
use Rattle.osm_elements.specs.declared.object.Ref.{Ref}
use Rattle.osm_elements.specs.declared.object.Member.{Member}
use Rattle.osm_elements.specs.declared.object.ObjectKind.{ObjectKind}
use Rattle.osm_elements.specs.declared.object.ObjectKind.TheVariants.{Node, Way, Relation}
use Rattle.osm_elements.specs.declared.object.Object.{Object}
use Rattle.osm_elements.specs.declared.object.Object.TheVariants as object
use Rattle.osm_notation.specs.Decimal.{units_text}
use Rattle.osm_notation.specs.Written.{tag_text, written}

-- ---- items

-- a location of a reference's own: x, the longitude, y and the latitude
abbrev pub own_place_text : Option Loc → List ℕ
own_place_text None = []
own_place_text (Some p) = codes "x" ++ units_text p.x ++ codes "y" ++ units_text p.y

-- a reference: n, the id of its node, and its own location if it has one
abbrev pub ref_text : Ref → List ℕ
ref_text r = codes "n" ++ signed_decimal r.node ++ own_place_text r.at

-- the letter of a kind of object
abbrev pub kind_letter : ObjectKind → List ℕ
kind_letter Node = codes "n"
kind_letter Way = codes "w"
kind_letter Relation = codes "r"

-- a member: its letter and id, @ and its role
abbrev pub member_text : Member → List ℕ
member_text m = kind_letter m.kind ++ signed_decimal m.id ++ codes "@" ++ written m.role

-- ---- fields, each after a space

-- a letter and the items separated by commas; nothing if there are no items
abbrev pub items_field : List ℕ → List (List ℕ) → List ℕ
items_field letter [] = []
items_field letter (item ∷ items) = codes " " ++ letter ++ join_with_byte 44 (item ∷ items)

abbrev pub tags_field : List Tag → List ℕ
tags_field tags = items_field (codes "T") (map tag_text tags)

abbrev pub refs_field : List Ref → List ℕ
refs_field refs = items_field (codes "N") (map ref_text refs)

abbrev pub members_field : List Member → List ℕ
members_field members = items_field (codes "M") (map member_text members)

-- the field of the longitude and that of the latitude, if there is a location
abbrev pub place_fields : Option Loc → List ℕ
place_fields None = []
place_fields (Some p) = codes " x" ++ units_text p.x ++ codes " y" ++ units_text p.y

-- ---- lines, without the newline that ends them

abbrev pub node_line : ℤ → List Tag → Option Loc → List ℕ
node_line id tags place = codes "n" ++ signed_decimal id ++ tags_field tags ++ place_fields place

abbrev pub way_line : ℤ → List Tag → List Ref → List ℕ
way_line id tags refs = codes "w" ++ signed_decimal id ++ tags_field tags ++ refs_field refs

abbrev pub relation_line : ℤ → List Tag → List Member → List ℕ
relation_line id tags members = codes "r" ++ signed_decimal id ++ tags_field tags ++ members_field members

-- the line of an object
abbrev pub object_line : Object → List ℕ
object_line (object.Node id live tags place) = node_line id tags place
object_line (object.Way id live tags refs) = way_line id tags refs
object_line (object.Relation id live tags members) = relation_line id tags members

-- ---- texts

-- a line and the newline that ends it
abbrev pub ended : List ℕ → List ℕ
ended line = line ++ codes "\n"

-- the lines of some objects, one after the other
abbrev pub objects_text : List Object → List ℕ
objects_text objects = flat_map (λ o. ended (object_line o)) objects
