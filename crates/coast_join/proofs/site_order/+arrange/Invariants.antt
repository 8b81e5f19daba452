use Rattle.std.proofs.Common.{length}
use Rattle.coast_join.proofs.site_order.+arrange.Given as goal

abbrev pub decreases-arrange : goal.decreases-arrange
decreases-arrange l = length l.sites.now
