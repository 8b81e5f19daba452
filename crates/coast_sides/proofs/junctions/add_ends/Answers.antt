-- The ends of one more segment.
use Rattle.coast_sides.proofs.PassedEnds.{ends_more}
use Rattle.coast_sides.proofs.junctions.add_ends.Goals as goal

pub loop-repeat-preserved : goal.loop-repeat-preserved
loop-repeat-preserved c = ends_more c.args.repeats.now c.loop-repeat.repeat-index c.repeat-item.result c.args.nodes.now.items c.loop-repeat.nodes.items c.push.new.self.items c.push-in-loop-repeat.new.self.items
    c.loop-repeat-test.true c.repeat-item.is c.loop-repeat.invariant c.in_ok-push.ensures.items c.in_ok-push-2.ensures.items
