use Rattle.plane_lists.specs.Statuses.Leaving.{Remains}
use Rattle.osm_sides.specs.Sweep.{ends_above}
use Rattle.osm_sides.proofs.sweep.leaving.leave_each.Given as goal

abbrev pub invariant-loop-next : goal.invariant-loop-next
invariant-loop-next l = Remains (ends_above l.at.y) l.ends l.next l.initial.status l.status
