use Rattle.std.proofs.Common.{length, true, ◌-◌, ◌<◌, ◌≡◌, ◌≤◌}
use Rattle.std.specs.List.{AllWithin}
use Rattle.osm_sides.specs.Sweep.{begins_by}
use Rattle.osm_sides.proofs.sweep.rows.end_of_row.Given as goal

abbrev pub invariant-loop-end : goal.invariant-loop-end
invariant-loop-end l = (l.from < l.end) × (l.end ≤ length l.segs) × AllWithin (λ t. begins_by l.at.y t ≡ true) l.segs 0 l.end

abbrev pub decreases-loop-end : goal.decreases-loop-end
decreases-loop-end l = length l.segs - l.end
