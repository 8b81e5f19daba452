use Rattle.std.proofs.Common.{◌≡◌, List, fold, length}
use Rattle.serde_json.specs.View.{members_view}
use Rattle.osm_elements.specs.declared.object.Tag.{Tag}
use Rattle.osm_text.specs.Members.{tag_members}
use Rattle.osm_text.specs.Properties.{by_key, with_tag}
use Rattle.osm_text.proofs.properties.properties.Given as goal

-- the object has the tags so far, and with those to come it has all
abbrev pub invariant-loop-tag : goal.invariant-loop-tag
invariant-loop-tag l = (tags : List Tag) × (members_view l.object.entries ≡ tag_members tags) × (fold with_tag tags l.rest ≡ by_key l.tags)

abbrev pub decreases-loop-tag : goal.decreases-loop-tag
decreases-loop-tag l = length l.rest
