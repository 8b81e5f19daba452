-- The places of the entries so far are added.
use Rattle.std.proofs.Common.{take}
use Rattle.area_locate.specs.Index.{HasEntry}
use Rattle.area_locate.specs.Within.{AddsWithin}
use Rattle.area_locate.proofs.within.add_entries.Given as goal

abbrev pub invariant-loop-entry : goal.invariant-loop-entry
invariant-loop-entry l = AddsWithin l.envelope l.points (HasEntry (take l.entry-index l.entries)) l.initial.found.items l.found.items
