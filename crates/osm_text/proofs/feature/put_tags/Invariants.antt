use Rattle.std.proofs.Common.{◌≡◌, ◌++◌, map, length}
use Rattle.osm_notation.specs.Kept.{KeepsFront}
use Rattle.osm_text.specs.Feature.{tags_text}
use Rattle.osm_notation.specs.Written.{tag_text}
use Rattle.osm_text.specs.Rows.{led_by_byte}
use Rattle.osm_text.proofs.feature.put_tags.Given as goal

-- what stands and what is to come are the whole, and what was there stands in front
abbrev pub invariant-loop-tag : goal.invariant-loop-tag
invariant-loop-tag l = record {
  whole : l.text.items ++ led_by_byte l.byte (map tag_text l.rest) ≡ l.fn.text.items ++ tags_text l.tags;
  kept : KeepsFront l.fn.text.items l.text.items;
}

abbrev pub decreases-loop-tag : goal.decreases-loop-tag
decreases-loop-tag l = length l.rest
