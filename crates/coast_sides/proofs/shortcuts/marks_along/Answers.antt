-- One more location.
use Rattle.std.proofs.Common.{◌≡◌, ◌-◌, max, get_or, refl, arith, rules}
use Rattle.coast_sides.proofs.ReachedLocations.{round_more}
use Rattle.coast_sides.proofs.RoundWalks.{marks_all, marks_more}
use Rattle.coast_sides.proofs.shortcuts.marks_along.Goals as goal

pub loop-place-preserved : goal.loop-place-preserved
loop-place-preserved c =
    let next : c.max-left.result ≡ max (c.loop-place.left - 1) (get_or c.args.reach.now c.loop-place.place 0) = first_of (search rules, omega arith) in (
      marks_more c.args.path.now c.args.reach.now c.loop-place.place c.loop-place.left c.index-path-place.result c.loop-place.marks.items c.push.new.self.items c.requires c.loop-place-test.true c.index-path-place.is c.loop-place.invariant.1 c.loop-place.invariant.0 c.in_ok-push.ensures.items,
      round_more c.args.reach.now c.loop-place.place c.loop-place.left (get_or c.args.reach.now c.loop-place.place 0) c.max-left.result refl next c.loop-place.invariant.1,
    )

pub returns : goal.returns
returns c = marks_all c.args.path.now c.loop-place.place c.loop-place.marks.items c.loop-place-test.false c.loop-place.invariant.0
