use Rattle.std.proofs.Common.{take}
use Rattle.coast_join.specs.JoinSteps.{AreGapLinks}
use Rattle.coast_join.proofs.ring_making.gap_links.Given as goal

abbrev pub invariant-loop-gap : goal.invariant-loop-gap
invariant-loop-gap l = AreGapLinks (take l.gap-index l.gaps) l.chains l.links.items
