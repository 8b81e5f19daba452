use Rattle.std.proofs.Common.{All, take}
use Rattle.coast_join.specs.SiteTrees.{IsInBounds}
use Rattle.coast_join.proofs.bounds.bounds_of.Given as goal

abbrev pub invariant-loop-site : goal.invariant-loop-site
invariant-loop-site l = All (IsInBounds l.bounds) (take l.site-index l.sites)
