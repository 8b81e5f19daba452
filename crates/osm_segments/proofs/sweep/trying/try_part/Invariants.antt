use Rattle.std.proofs.Common.{ℕ, ◌<◌, ◌≤◌}
use Rattle.osm_segments.specs.Ranges.{IsGrown, IsTried}
use Rattle.osm_segments.proofs.sweep.trying.try_part.Given as goal

abbrev pub invariant-loop-j : goal.invariant-loop-j
invariant-loop-j l =
    IsGrown l.segs l.initial.told.items l.told.items × ((j : ℕ) → l.from ≤ j → j < l.j → IsTried l.segs l.told.items l.i j)
