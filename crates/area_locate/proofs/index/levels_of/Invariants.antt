-- The levels so far.
use Rattle.std.proofs.Common.{All, length, ◌-◌, ◌<◌}
use Rattle.area_locate.specs.Index.{IsPointLevel}
use Rattle.area_locate.proofs.index.levels_of.Given as goal

abbrev pub invariant-loop-width : goal.invariant-loop-width
invariant-loop-width l = All (IsPointLevel l.points) l.levels.items × (0 < l.width)

abbrev pub decreases-loop-width : goal.decreases-loop-width
decreases-loop-width l = length l.points - l.width
