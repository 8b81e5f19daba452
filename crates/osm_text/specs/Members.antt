-- Tags as the members of an object of JSON, their values strings. No public contract cites it.
use Rattle.std.specs.Prelude.{List, [], ◌∷◌}
use Rattle.serde_json.specs.Data.{string, Members, no_members, member}
use Rattle.osm_elements.specs.declared.object.Tag.{Tag}

abbrev pub tag_members : List Tag → Members
tag_members [] = no_members
tag_members (t ∷ tags) = member t.key (string t.value) (tag_members tags)
