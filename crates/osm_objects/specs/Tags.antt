-- Tags by their keys. Of equal keys the first counts.
use Rattle.std.specs.Prelude.{Bool, not, ℕ, List, filter, find, bytes_eq, Option, Some, option_map, is_some}
use Rattle.std.specs.List.{list_any}
use Rattle.std.specs.Option.{option_eq}
use Rattle.osm_elements.specs.declared.object.Tag.{Tag}

-- the value of the first tag of this key
abbrev pub tag_value : List ℕ → List Tag → Option (List ℕ)
tag_value key tags = option_map (λ t. t.value) (find (λ t. bytes_eq t.key key) tags)

-- tagged key=value
abbrev pub is_tagged : List ℕ → List ℕ → List Tag → Bool
is_tagged key value tags = option_eq bytes_eq (tag_value key tags) (Some value)

-- a tag has this key
abbrev pub has_key : List ℕ → List Tag → Bool
has_key key tags = is_some (tag_value key tags)

-- a tag has one of these keys
abbrev pub has_one_of : List (List ℕ) → List Tag → Bool
has_one_of keys tags = list_any (λ key. has_key key tags) keys

-- the tags of every other key, in order
abbrev pub without_key : List ℕ → List Tag → List Tag
without_key key tags = filter (λ t. not (bytes_eq t.key key)) tags
