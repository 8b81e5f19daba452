use Rattle.std.proofs.Common.{◌≡◌, ◌||◌, ◌<◌, ℕ, length, take}
use Rattle.std.specs.List.{list_any}
use Rattle.coast_sides.specs.declared.steps_along.StepAlong.{StepAlong}
use Rattle.coast_sides.specs.ShortcutSteps.{is_reached, lies_between}
use Rattle.coast_sides.proofs.stretches.reach_over.Given as goal

abbrev pub invariant-loop-step : goal.invariant-loop-step
invariant-loop-step l =
    (k : ℕ) → k < length l.initial.reach
    → is_reached l.reach k ≡ (is_reached l.initial.reach k || list_any (λ (s : StepAlong). list_any (λ (t : StepAlong). lies_between (length l.initial.reach) s.place t.place k) l.others) (take l.step-index l.steps))
