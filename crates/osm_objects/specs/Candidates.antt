-- Candidates: the objects that may have an area, and the tags of an area.
use Rattle.std.specs.Prelude.{◌-◌, Bool, true, false, not, ◌&&◌, ◌||◌, nat_le, nat_lt, ℕ, List, [], length, map, filter, slice_get, codes, ℤ, Option, None, Some, option_map}
use Rattle.std.specs.Ordering.{int_eq}
use Rattle.std.specs.Option.{option_eq}
use Rattle.osm_elements.specs.declared.object.Tag.{Tag}
use Rattle.osm_elements.specs.declared.object.Ref.{Ref}
use Rattle.osm_elements.specs.declared.object.ObjectRef.{ObjectRef}
use Rattle.osm_elements.specs.declared.object.Object.{Object}
use Rattle.osm_elements.specs.declared.object.Object.TheVariants as object
use Rattle.osm_objects.specs.declared.choice.Choice.{Choice}
use Rattle.osm_objects.specs.Object.{ref_of}
use Rattle.osm_objects.specs.Tags.{has_one_of, is_tagged, without_key}

-- the node of a reference, if there is one
abbrev pub node_named : Option Ref → Option ℤ
node_named reference = option_map (λ r. r.node) reference

-- it has a reference, and the last is to the node of the first, wherever each of the two is
abbrev pub is_closed : List Ref → Bool
is_closed refs = nat_lt 0 (length refs) && option_eq int_eq (node_named (slice_get refs 0)) (node_named (slice_get refs (length refs - 1)))

-- ---- areas by their tags

-- a choice without lists of keys
abbrev pub without_lists : Bool → Choice
without_lists keep_untagged = record { keep_untagged = keep_untagged; area_keys = None; linear_keys = None }

-- it has no key of the list, if the list is given
abbrev pub has_no_key : Option (List (List ℕ)) → List Tag → Bool
has_no_key None tags = true
has_no_key (Some keys) tags = not (has_one_of keys tags)

-- it has a key of the list, if the list is given
abbrev pub has_key_or_any : Option (List (List ℕ)) → List Tag → Bool
has_key_or_any None tags = true
has_key_or_any (Some keys) tags = has_one_of keys tags

-- tagged area=yes; or not tagged area=no, without a linear key and with an area key, if these are given
abbrev pub is_area_way : Choice → List Tag → Bool
is_area_way choice tags =
    is_tagged (codes "area") (codes "yes") tags
    || (not (is_tagged (codes "area") (codes "no") tags) && has_no_key choice.linear_keys tags && has_key_or_any choice.area_keys tags)

-- ---- candidates

-- a closed way with at least four references that is an area by its tags, or a relation tagged type=multipolygon or
-- type=boundary
unfoldable pub may_have_area : Choice → Object → Bool
may_have_area choice (object.Node id live tags place) = false
may_have_area choice (object.Way id live tags refs) = nat_le 4 (length refs) && is_closed refs && is_area_way choice tags
may_have_area choice (object.Relation id live tags members) = is_tagged (codes "type") (codes "multipolygon") tags || is_tagged (codes "type") (codes "boundary") tags

-- the tags of its area: all of a way's, and a relation's without its type
unfoldable pub area_tags : Object → List Tag
area_tags (object.Node id live tags place) = []
area_tags (object.Way id live tags refs) = tags
area_tags (object.Relation id live tags members) = without_key (codes "type") tags

-- it may have an area, and that area has a tag unless those without are kept
unfoldable pub is_candidate : Choice → Object → Bool
is_candidate choice o = may_have_area choice o && (choice.keep_untagged || nat_lt 0 (length (area_tags o)))

-- the candidates, in order
abbrev pub candidates : Choice → List Object → List ObjectRef
candidates choice objects = map ref_of (filter (is_candidate choice) objects)
