use Rattle.std.proofs.Common.{◌≤◌}
use Rattle.osm_sides.specs.Sweep.{AreDirectedTo}
use Rattle.osm_sides.proofs.sweep.rows.direct_row.Given as goal

abbrev pub invariant-loop-i : goal.invariant-loop-i
invariant-loop-i l = (l.from ≤ l.i) × (l.i ≤ l.to) × AreDirectedTo l.segs l.i l.edges.items
