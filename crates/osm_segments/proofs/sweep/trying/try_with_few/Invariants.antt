use Rattle.std.proofs.Common.{Contains, take, ℕ, ◌<◌, ◌≤◌}
use Rattle.osm_segments.specs.Ranges.{IsGrown, IsTried}
use Rattle.osm_segments.proofs.sweep.trying.try_with_few.Given as goal

abbrev pub invariant-loop-i : goal.invariant-loop-i
invariant-loop-i l =
    IsGrown l.segs l.initial.told.items l.told.items × ((i j : ℕ) → Contains (take l.i-index l.few) i → l.from ≤ j → j < l.to → IsTried l.segs l.told.items i j)
