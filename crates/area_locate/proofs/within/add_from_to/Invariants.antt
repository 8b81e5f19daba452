-- The places so far are added.
use Rattle.std.proofs.Common.{◌-◌}
use Rattle.area_locate.specs.Index.{IsFromTo}
use Rattle.area_locate.specs.Within.{AddsWithin}
use Rattle.area_locate.proofs.within.add_from_to.Given as goal

abbrev pub invariant-loop-place : goal.invariant-loop-place
invariant-loop-place l = AddsWithin l.envelope l.points (IsFromTo l.from l.place) l.initial.found.items l.found.items

abbrev pub decreases-loop-place : goal.decreases-loop-place
decreases-loop-place l = l.to - l.place
