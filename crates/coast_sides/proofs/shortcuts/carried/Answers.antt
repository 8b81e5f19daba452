-- One more step.
use Rattle.std.proofs.Common.{◌≡◌, ◌-◌, max, get_or, refl, arith, rules}
use Rattle.coast_sides.proofs.ReachedLocations.{carried_more}
use Rattle.coast_sides.proofs.shortcuts.carried.Goals as goal

pub loop-count-preserved : goal.loop-count-preserved
loop-count-preserved c =
    let next : c.max-left.result ≡ max (c.loop-count.left - 1) (get_or c.args.reach.now c.loop-count.count-index 0) = first_of (search rules, omega arith) in
    carried_more c.args.reach.now c.loop-count.count-index c.loop-count.left (get_or c.args.reach.now c.loop-count.count-index 0) c.max-left.result refl next c.loop-count.invariant
