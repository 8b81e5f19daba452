-- The entries of the places so far.
use Rattle.area_locate.specs.Index.{AreEntries}
use Rattle.area_locate.proofs.stretch.entries_of.Given as goal

abbrev pub invariant-loop-place : goal.invariant-loop-place
invariant-loop-place l = AreEntries l.points l.first l.place l.entries.items
