use Rattle.std.proofs.Common.{◌≡◌, take}
use Rattle.coast_sides.specs.Shortcuts.{marked}
use Rattle.coast_sides.specs.ShortcutSteps.{IsCarriedRound}
use Rattle.coast_sides.proofs.shortcuts.marks_along.Given as goal

abbrev pub invariant-loop-place : goal.invariant-loop-place
invariant-loop-place l = (l.marks.items ≡ take l.place (marked l.path)) × IsCarriedRound l.reach l.place l.left
