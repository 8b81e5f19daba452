use Rattle.std.proofs.Common.{◌≡◌, ◌++◌, drop}
use Rattle.std.specs.List.{filter_map, flat_map}
use Rattle.osm_notation.specs.Kept.{KeepsFront}
use Rattle.osm_text.specs.PieceSteps.{hole_text}
use Rattle.osm_text.specs.Rounded.{vanished_at}
use Rattle.osm_text.proofs.piece.put_holes.Given as goal

-- what stands and what is to come are the whole, and what was there stands in front
abbrev pub invariant-loop-ring : goal.invariant-loop-ring
invariant-loop-ring l = record {
  whole : l.text.items ++ flat_map hole_text (drop l.ring-index l.rings) ≡ l.fn.text.items ++ flat_map hole_text l.rings;
  noted : l.vanished ++ filter_map vanished_at (drop l.ring-index l.rings) ≡ l.fn.vanished ++ filter_map vanished_at l.rings;
  kept : KeepsFront l.fn.text.items l.text.items;
}
