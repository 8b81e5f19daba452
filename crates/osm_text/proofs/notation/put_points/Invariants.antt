use Rattle.std.proofs.Common.{◌≡◌, ◌++◌, map, drop}
use Rattle.osm_notation.specs.Kept.{KeepsFront}
use Rattle.osm_text.specs.Notation.{point_in}
use Rattle.osm_text.specs.Rows.{led_by_byte}
use Rattle.osm_text.proofs.notation.put_points.Given as goal

-- what stands and what is to come are the whole, and what was there stands in front
abbrev pub invariant-loop-point : goal.invariant-loop-point
invariant-loop-point l = record {
  whole : l.text.items ++ led_by_byte l.byte (map (point_in l.notation) (drop l.point-index l.points)) ≡ l.fn.text.items ++ led_by_byte l.fn.lead (map (point_in l.notation) l.points);
  kept : KeepsFront l.fn.text.items l.text.items;
}
