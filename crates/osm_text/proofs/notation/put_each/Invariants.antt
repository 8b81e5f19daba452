use Rattle.std.proofs.Common.{◌≡◌, ◌++◌, map, drop}
use Rattle.osm_notation.specs.Kept.{KeepsFront}
use Rattle.osm_text.specs.Paths.{paths_of}
use Rattle.osm_text.specs.Notation.{polygon_in}
use Rattle.osm_text.specs.Rows.{led_by_byte}
use Rattle.osm_text.proofs.notation.put_each.Given as goal

-- what stands and what is to come are the whole, and what was there stands in front
abbrev pub invariant-loop-polygon : goal.invariant-loop-polygon
invariant-loop-polygon l = record {
  whole : l.text.items ++ led_by_byte l.byte (map (polygon_in l.notation) (paths_of (drop l.polygon-index l.polygons))) ≡ l.fn.text.items ++ led_by_byte l.fn.lead (map (polygon_in l.notation) (paths_of l.polygons));
  kept : KeepsFront l.fn.text.items l.text.items;
}
