use Rattle.std.proofs.Common.{◌≡◌, ◌++◌, map}
use Rattle.osm_notation.specs.Kept.{KeepsFront}
use Rattle.opl_writer.specs.Written.{ref_text, refs_field}
use Rattle.opl_writer.specs.Rows.{led}
use Rattle.opl_writer.proofs.fields.put_refs.Given as goal

-- what stands and what is to come are the whole, and what was there stands in front
abbrev pub invariant-loop-reference : goal.invariant-loop-reference
invariant-loop-reference l = record {
  whole : l.text.items ++ led l.mark (map ref_text l.reference-iterator) ≡ l.fn.text.items ++ refs_field l.refs;
  kept : KeepsFront l.fn.text.items l.text.items;
}
