use Rattle.std.proofs.Common.{◌≡◌, ◌++◌, length}
use Rattle.std.specs.Str.{IsUtf8}
use Rattle.osm_notation.specs.Written.{written}
use Rattle.osm_notation.specs.Kept.{KeepsFront}
use Rattle.osm_notation.proofs.strings.put_written.Given as goal

-- what stands and what is to come are the whole, and what was there stands in front
abbrev pub invariant-loop-rest : goal.invariant-loop-rest
invariant-loop-rest l = record {
  utf8 : IsUtf8 l.rest;
  whole : l.bytes.items ++ written l.rest ≡ l.fn.bytes.items ++ written l.text;
  kept : KeepsFront l.fn.bytes.items l.bytes.items;
}

abbrev pub decreases-loop-rest : goal.decreases-loop-rest
decreases-loop-rest l = length l.rest
