use Rattle.std.proofs.Common.{◌-◌}
use Rattle.coast_join.proofs.site_order.+tell.Given as goal

abbrev pub decreases-tell : goal.decreases-tell
decreases-tell l = l.stretch.end - l.stretch.first
