use Rattle.std.proofs.Common.{◌≡◌, ◌++◌, take, map}
use Rattle.osm_area.specs.Notes.{repeated_note}
use Rattle.osm_area.proofs.notes.add_repeats.Given as goal

abbrev pub invariant-loop-repeat : goal.invariant-loop-repeat
invariant-loop-repeat l = l.notes ≡ l.initial.notes ++ map repeated_note (take l.repeat-index l.repeats)
