-- One more step.
use Rattle.coast_sides.proofs.RoundWalks.{numbered_all, numbered_more}
use Rattle.coast_sides.proofs.steps_along.steps_in_order.Goals as goal

pub loop-place-preserved : goal.loop-place-preserved
loop-place-preserved c = numbered_more c.args.path.now c.loop-place.place c.next_round-next.result c.index-path-place.result c.index-path-next.result c.loop-place.steps.items c.add_step_along.new.steps.items
    c.loop-place-test.true c.next_round-next.ensures.inside c.next_round-next.ensures.value c.index-path-place.is c.index-path-next.is c.loop-place.invariant c.in_ok-add_step_along.ensures

pub returns : goal.returns
returns c = numbered_all c.args.path.now c.loop-place.place c.loop-place.steps.items c.loop-place-test.false c.loop-place.invariant
