use Rattle.std.proofs.Common.{arith}
use Rattle.plane_lists.proofs.StatusKit.{those_that_stay_remain}
use Rattle.osm_sides.specs.Sweep.{ends_above}
use Rattle.osm_sides.proofs.sweep.leaving.leave_each.Goals as goal

pub returns : goal.returns
returns c =
    those_that_stay_remain (ends_above c.args.at.y) c.args.ends.now c.loop-next.next c.args.status.now c.loop-next.status c.loop-next.invariant
    (λ k d h l. c.requires.stay k d (omega arith) l)
