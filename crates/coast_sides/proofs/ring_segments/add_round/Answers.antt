-- One more step.
use Rattle.coast_sides.proofs.RoundSteps.{step_more, steps_all}
use Rattle.coast_sides.proofs.ring_segments.add_round.Goals as goal

pub loop-place-preserved : goal.loop-place-preserved
loop-place-preserved c = step_more c.args.path.now c.loop-place.place c.next_round.result c.index-path-place.result c.index-path-next_round.result c.args.segs.now.items c.loop-place.segs.items c.add_step.new.segs.items
    c.loop-place-test.true c.next_round.ensures.inside c.next_round.ensures.value c.index-path-place.is c.index-path-next_round.is c.loop-place.invariant c.in_ok-add_step.ensures

pub returns : goal.returns
returns c = steps_all c.args.path.now c.loop-place.place c.args.segs.now.items c.loop-place.segs.items c.loop-place-test.false c.loop-place.invariant
