use Rattle.std.proofs.Common.{◌-◌}
use Rattle.coast_join.proofs.site_tree.+nearest_in.Given as goal

abbrev pub decreases-nearest_in : goal.decreases-nearest_in
decreases-nearest_in l = l.stretch.end - l.stretch.first
