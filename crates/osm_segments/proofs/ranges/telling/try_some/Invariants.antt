use Rattle.std.proofs.Common.{get_or, ℕ, ◌<◌, ◌≤◌}
use Rattle.osm_segments.specs.declared.ranges.strips.SegAt.{SegAt}
use Rattle.osm_segments.specs.Ranges.{IsGrown, IsTried}
use Rattle.osm_segments.proofs.ranges.telling.try_some.Given as goal

abbrev pub invariant-loop-i : goal.invariant-loop-i
invariant-loop-i l =
    IsGrown l.segs l.initial.told.items l.told.items × ((k : ℕ) (d : SegAt) → l.from ≤ k → k < l.i → IsTried l.segs l.told.items (get_or l.all k d).place l.place)
