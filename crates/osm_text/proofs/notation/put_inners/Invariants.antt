use Rattle.std.proofs.Common.{◌≡◌, ◌++◌, map, drop}
use Rattle.osm_notation.specs.Kept.{KeepsFront}
use Rattle.osm_text.specs.Paths.{path_along}
use Rattle.osm_text.specs.Notation.{ring_in}
use Rattle.osm_text.specs.Rows.{led_by_byte}
use Rattle.osm_text.proofs.notation.put_inners.Given as goal

-- what stands and what is to come are the whole, and what was there stands in front
abbrev pub invariant-loop-ring : goal.invariant-loop-ring
invariant-loop-ring l = record {
  whole : l.text.items ++ led_by_byte 44 (map (ring_in l.notation) (map path_along (drop l.ring-index l.rings))) ≡ l.fn.text.items ++ led_by_byte 44 (map (ring_in l.notation) (map path_along l.rings));
  kept : KeepsFront l.fn.text.items l.text.items;
}
