-- The properties of a feature of GeoJSON: the object of an area's tags, as the compact text of JSON (RFC 8259).
use Rattle.std.specs.Prelude.{◌≡◌, ℕ, Option, ◌/◌, ◌%◌, ◌==◌, nat_lt, if◌then◌else◌, List, [], ◌∷◌, ◌++◌, fold, flat_map, map, codes, bytes_eq}
use Rattle.std.specs.Char.{digit_char}
use Rattle.std.specs.List.{find, join_with_byte, list_any}
use Rattle.std.specs.Ordering.{nat_cmp, match_ordering}
use Rattle.std.specs.declared.cmp.Ordering.TheVariants.{Less}
use Rattle.std.specs.Cmp.Lexicographic.{slice_cmp}
use Rattle.osm_elements.specs.declared.object.Tag.{Tag}

-- a tag put before the first one whose key is above its own
abbrev pub put_tag : Tag → List Tag → List Tag
put_tag t [] = t ∷ []
put_tag t (u ∷ tags) = match_ordering (slice_cmp nat_cmp t.key u.key) (t ∷ u ∷ tags) (u ∷ put_tag t tags) (u ∷ put_tag t tags)

-- a tag added, unless its key is there
abbrev pub with_tag : List Tag → Tag → List Tag
with_tag tags t = if list_any (λ u. bytes_eq t.key u.key) tags then tags else put_tag t tags

-- tags by keys, rising by their bytes: of equal keys the first alone
abbrev pub by_key : List Tag → List Tag
by_key tags = fold with_tag [] tags

-- the first tag with a key
abbrev pub first_tag_with : List ℕ → List Tag → Option Tag
first_tag_with key tags = find (λ t. bytes_eq key t.key) tags

-- a tag's key is below that of the first of these
abbrev pub IsBelow : Tag → List Tag → Type 0
IsBelow t [] = Unit {0}
IsBelow t (u ∷ tags) = slice_cmp nat_cmp t.key u.key ≡ Less

-- each key is below the next
abbrev pub KeysRise : List Tag → Type 0
KeysRise [] = Unit {0}
KeysRise (t ∷ tags) = IsBelow t tags × KeysRise tags

-- the two lower case hexadecimal digits of a byte
abbrev pub hex_pair : ℕ → List ℕ
hex_pair c = digit_char (c / 16) ∷ digit_char (c % 16) ∷ []

-- a byte of a string: the quotation mark (34), the backslash (92) and the control characters (below 32) are escaped, all else stands for itself
abbrev pub escaped_byte : ℕ → List ℕ
escaped_byte c =
    if c == 34 then codes "\\\"" else
    if c == 92 then codes "\\\\" else
    if c == 8 then codes "\\b" else
    if c == 12 then codes "\\f" else
    if c == 10 then codes "\\n" else
    if c == 13 then codes "\\r" else
    if c == 9 then codes "\\t" else
    if nat_lt c 32 then codes "\\u00" ++ hex_pair c else
    c ∷ []

-- a string in its quotation marks
unfoldable pub string_text : List ℕ → List ℕ
string_text bytes = codes "\"" ++ flat_map escaped_byte bytes ++ codes "\""

-- a tag as a member of the object: its key and its value as strings
abbrev pub tag_member_text : Tag → List ℕ
tag_member_text tag = string_text tag.key ++ codes ":" ++ string_text tag.value

-- the object of tags by keys, its members parted by commas and no spaces
abbrev pub properties_text : List Tag → List ℕ
properties_text tags = codes "{" ++ join_with_byte 44 (map tag_member_text (by_key tags)) ++ codes "}"
