use Rattle.std.proofs.Common.{length, ◌++◌}
use Rattle.osm_segments.specs.Ranges.{IsGrown, IsReduced}
use Rattle.osm_segments.proofs.ranges.telling.settle_rows.Given as goal

abbrev pub invariant-loop-alloc : goal.invariant-loop-alloc
invariant-loop-alloc l =
    IsGrown l.segs l.initial.told.items l.told.items × IsReduced l.segs l.strip l.told.items (l.rest.items ++ l.others) (l.fn.all.items ++ l.others)

abbrev pub decreases-loop-alloc : goal.decreases-loop-alloc
decreases-loop-alloc l = length l.rest.items
