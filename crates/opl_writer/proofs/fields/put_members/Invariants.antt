use Rattle.std.proofs.Common.{◌≡◌, ◌++◌, map, length}
use Rattle.osm_notation.specs.Kept.{KeepsFront}
use Rattle.opl_writer.specs.Written.{member_text, members_field}
use Rattle.opl_writer.specs.Rows.{led}
use Rattle.opl_writer.proofs.fields.put_members.Given as goal

-- what stands and what is to come are the whole, and what was there stands in front
abbrev pub invariant-loop-member : goal.invariant-loop-member
invariant-loop-member l = record {
  whole : l.text.items ++ led l.mark (map member_text l.rest) ≡ l.fn.text.items ++ members_field l.members;
  kept : KeepsFront l.fn.text.items l.text.items;
}

abbrev pub decreases-loop-member : goal.decreases-loop-member
decreases-loop-member l = length l.rest
