use Rattle.std.proofs.Common.{◌≡◌, ◌++◌, take}
use Rattle.std.specs.List.{filter_map}
use Rattle.coast_sides.specs.Shortcuts.{run_at}
use Rattle.coast_sides.specs.ShortcutSteps.{cuts_of}
use Rattle.coast_sides.proofs.LeftRuns.{numbered_left}
use Rattle.coast_sides.proofs.shortcuts.add_runs.Given as goal

abbrev pub invariant-loop-index : goal.invariant-loop-index
invariant-loop-index l = l.cuts ≡ l.initial.cuts ++ cuts_of l.ring (filter_map (run_at l.marks) (take l.index (numbered_left 0 l.marks)))
