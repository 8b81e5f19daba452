use Rattle.std.proofs.Common.{Contains, ℕ, ◌-◌, ◌<◌, ◌≤◌}
use Rattle.osm_segments.specs.Ranges.{IsGrown, IsTried}
use Rattle.osm_segments.proofs.sweep.trying.try_few.Given as goal

abbrev pub invariant-loop-from : goal.invariant-loop-from
invariant-loop-from l =
    (l.from ≤ l.count) × (IsGrown l.segs l.initial.told.items l.told.items × ((i j : ℕ) → Contains l.few i → j < l.from → IsTried l.segs l.told.items i j))

abbrev pub decreases-loop-from : goal.decreases-loop-from
decreases-loop-from l = l.count - l.from
