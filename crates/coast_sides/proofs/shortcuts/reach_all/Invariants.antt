use Rattle.std.proofs.Common.{◌≡◌, ◌||◌, ◌<◌, ℕ, length, take}
use Rattle.std.specs.List.{list_any}
use Rattle.osm_segments.specs.Places.{pair_at}
use Rattle.osm_segments.specs.declared.places.Places.{Places}
use Rattle.coast_sides.specs.ShortcutSteps.{is_reached, told_cuts_out}
use Rattle.coast_sides.proofs.shortcuts.reach_all.Given as goal

abbrev pub invariant-loop-places : goal.invariant-loop-places
invariant-loop-places l =
    (k : ℕ) → k < length l.initial.reach
    → is_reached l.reach k ≡ (is_reached l.initial.reach k || list_any (λ (places : Places). told_cuts_out (length l.initial.reach) k l.steps (pair_at l.segs places)) (take l.places-index l.conflicts))
