use Rattle.std.proofs.Common.{◌≡◌, ◌++◌, map, length}
use Rattle.osm_notation.specs.Kept.{KeepsFront}
use Rattle.opl_writer.specs.Written.{tags_field}
use Rattle.osm_notation.specs.Written.{tag_text}
use Rattle.opl_writer.specs.Rows.{led}
use Rattle.opl_writer.proofs.fields.put_tags.Given as goal

-- what stands and what is to come are the whole, and what was there stands in front
abbrev pub invariant-loop-tag : goal.invariant-loop-tag
invariant-loop-tag l = record {
  whole : l.text.items ++ led l.mark (map tag_text l.rest) ≡ l.fn.text.items ++ tags_field l.tags;
  kept : KeepsFront l.fn.text.items l.text.items;
}

abbrev pub decreases-loop-tag : goal.decreases-loop-tag
decreases-loop-tag l = length l.rest
