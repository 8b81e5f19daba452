use Rattle.std.proofs.Common.{◌≡◌, ◌++◌, map, drop}
use Rattle.osm_notation.specs.Kept.{KeepsFront}
use Rattle.osm_text.specs.Notation.{point_in}
use Rattle.osm_text.specs.Paths.{path_along}
use Rattle.osm_text.specs.Rows.{led_by_byte}
use Rattle.osm_text.proofs.notation.put_starts.Given as goal

-- what stands and what is to come are the whole, and what was there stands in front
abbrev pub invariant-loop-edge : goal.invariant-loop-edge
invariant-loop-edge l = record {
  whole : l.text.items ++ led_by_byte l.byte (map (point_in l.notation) (path_along (drop l.edge-index l.edges))) ≡ l.fn.text.items ++ led_by_byte l.fn.lead (map (point_in l.notation) (path_along l.edges));
  kept : KeepsFront l.fn.text.items l.text.items;
}
