use Rattle.std.proofs.Common.{◌-◌}
use Rattle.coast_join.proofs.site_tree.+refresh_along.Given as goal

abbrev pub decreases-refresh_along : goal.decreases-refresh_along
decreases-refresh_along l = l.stretch.end - l.stretch.first
