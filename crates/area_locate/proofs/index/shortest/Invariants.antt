-- Stretches of the points so far.
use Rattle.std.proofs.Common.{All, length, ◌-◌, ◌≤◌}
use Rattle.area_locate.specs.Index.{IsStretch}
use Rattle.area_locate.proofs.index.shortest.Given as goal

abbrev pub invariant-loop-first : goal.invariant-loop-first
invariant-loop-first l = All (IsStretch l.points) l.stretches.items × (l.all ≤ length l.points) × (l.all ≤ 4294967295)

abbrev pub decreases-loop-first : goal.decreases-loop-first
decreases-loop-first l = l.all - l.first
