use Rattle.std.proofs.Common.{false, length, ◌-◌, ◌≡◌, ◌≤◌}
use Rattle.std.specs.List.{AllWithin}
use Rattle.osm_sides.specs.Sweep.{ends_above}
use Rattle.osm_sides.proofs.sweep.leaving.count_ended.Given as goal

abbrev pub invariant-loop-count : goal.invariant-loop-count
invariant-loop-count l = (l.count ≤ length l.ends) × AllWithin (λ t. ends_above l.at.y t ≡ false) l.ends 0 l.count

abbrev pub decreases-loop-count : goal.decreases-loop-count
decreases-loop-count l = length l.ends - l.count
