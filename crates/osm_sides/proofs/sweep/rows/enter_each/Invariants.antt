use Rattle.std.proofs.Common.{take, ◌≤◌}
use Rattle.plane_lists.specs.Statuses.Status.{IsStatus}
use Rattle.osm_lattice.specs.Loc.{vector_of}
use Rattle.osm_lattice.specs.Seg.{edge_of}
use Rattle.osm_sides.proofs.sweep.rows.enter_each.Given as goal

abbrev pub invariant-loop-i : goal.invariant-loop-i
invariant-loop-i l = (l.from ≤ l.i) × (l.i ≤ l.to) × IsStatus edge_of (vector_of l.at) (take l.i l.segs) l.status
