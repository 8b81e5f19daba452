use Rattle.std.proofs.Common.{◌≡◌, ◌++◌, take}
use Rattle.std.specs.List.{filter_map}
use Rattle.osm_segments.specs.Pairs.{pair_of}
use Rattle.osm_segments.proofs.few.pairs.push_conflicts.Given as goal

abbrev pub invariant-loop-second : goal.invariant-loop-second
invariant-loop-second l = l.pairs.items ≡ l.initial.pairs.items ++ filter_map (pair_of l.first) (take l.second-index l.rest)
