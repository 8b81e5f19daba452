use Rattle.std.proofs.Common.{take, ◌≡◌}
use Rattle.std.specs.List.{filter_map}
use Rattle.osm_segments.specs.Places.{pair_at}
use Rattle.osm_segments.proofs.pairs.pairs_at.Given as goal

abbrev pub invariant-loop-p : goal.invariant-loop-p
invariant-loop-p l = l.pairs.items ≡ filter_map (pair_at l.segs) (take l.p-index l.places)
