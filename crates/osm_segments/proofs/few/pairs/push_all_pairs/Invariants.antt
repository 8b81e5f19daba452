use Rattle.std.proofs.Common.{◌≡◌, ◌++◌, length}
use Rattle.osm_segments.specs.Pairs.{conflicts_of}
use Rattle.osm_segments.proofs.few.pairs.push_all_pairs.Given as goal

abbrev pub invariant-loop-rest : goal.invariant-loop-rest
invariant-loop-rest l = l.pairs.items ++ conflicts_of l.rest ≡ l.initial.pairs.items ++ conflicts_of l.fn.segs

abbrev pub decreases-loop-rest : goal.decreases-loop-rest
decreases-loop-rest l = length l.rest
