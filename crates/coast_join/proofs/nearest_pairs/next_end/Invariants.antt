use Rattle.std.proofs.Common.{All, Contains, List}
use Rattle.coast_join.specs.declared.sites.Site.{Site}
use Rattle.coast_join.proofs.nearest_pairs.next_end.Given as goal

abbrev pub invariant-loop-site : goal.invariant-loop-site
invariant-loop-site l = (sites : List Site) → All (Contains sites) l.fn.waiting.items → All (Contains sites) l.waiting.items

abbrev pub decreases-loop-site : goal.decreases-loop-site
decreases-loop-site l = goal.left-loop-site l
