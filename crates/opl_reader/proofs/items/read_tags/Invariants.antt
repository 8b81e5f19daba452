use Rattle.std.proofs.Common.{◌≡◌, List, drop}
use Rattle.std.specs.Option.{option_copied}
use Rattle.osm_elements.specs.declared.object.Tag.{Tag}
use Rattle.opl_reader.specs.Items.{first_of_each}
use Rattle.opl_reader.specs.ItemReading.{tag_at}
use Rattle.opl_reader.specs.Steps.{left_len, HasKeysOf}
use Rattle.opl_reader.proofs.ItemLemmas.{ItemsTo}
use Rattle.opl_reader.proofs.items.read_tags.Given as goal

-- the tags that were read so far, of which the first of each key are kept, and the keys of those behind the first few
abbrev pub invariant-loop-left : goal.invariant-loop-left
invariant-loop-left l = (front : List Tag) × (l.tags ≡ first_of_each front) × ItemsTo tag_at front l.at l.left l.place l.text × HasKeysOf l.later_keys (drop 16 l.tags)

abbrev pub decreases-loop-left : goal.decreases-loop-left
decreases-loop-left l = left_len (option_copied l.left)
