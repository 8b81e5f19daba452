use Rattle.std.proofs.Common.{length}
use Rattle.coast_sides.proofs.CutRings.{AreUnderway}
use Rattle.coast_sides.proofs.rounds.cut_line.Given as goal

abbrev pub invariant-loop-left : goal.invariant-loop-left
invariant-loop-left l = AreUnderway l.ring l.path l.initial.cuts l.left l.cuts

abbrev pub decreases-loop-left : goal.decreases-loop-left
decreases-loop-left l = length l.left
