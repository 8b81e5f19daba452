use Rattle.std.proofs.Common.{take}
use Rattle.coast_sides.specs.Rounds.{AreCutDown}
use Rattle.coast_sides.proofs.rounds.cut_down.Given as goal

abbrev pub invariant-loop-ring : goal.invariant-loop-ring
invariant-loop-ring l = AreCutDown (take l.ring-index l.rings) l.left l.cuts
