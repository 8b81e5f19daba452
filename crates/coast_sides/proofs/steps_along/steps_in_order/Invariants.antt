use Rattle.std.proofs.Common.{◌≡◌, take}
use Rattle.std.specs.List.{enumerate_from, filter_map}
use Rattle.coast_sides.specs.Segments.{steps_round}
use Rattle.coast_sides.specs.ShortcutSteps.{step_along}
use Rattle.coast_sides.proofs.steps_along.steps_in_order.Given as goal

abbrev pub invariant-loop-place : goal.invariant-loop-place
invariant-loop-place l = l.steps.items ≡ filter_map step_along (take l.place (enumerate_from 0 (steps_round l.path)))
