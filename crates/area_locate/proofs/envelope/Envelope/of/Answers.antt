-- One more segment, both of whose ends are within.
use Rattle.area_locate.proofs.Enclosing.{all_taken, one_more_within}
use Rattle.area_locate.proofs.envelope.Envelope.of.Goals as goal

pub loop-side-preserved : goal.loop-side-preserved
loop-side-preserved c =
    one_more_within c.loop-side.envelope c.with.result c.with-envelope.result c.args.sides.now c.loop-side.side-index c.side-item.result c.loop-side-test.true c.side-item.is
    c.with.ensures.new c.with.ensures.old c.with-envelope.ensures.new c.with-envelope.ensures.old c.loop-side.invariant

pub returns : goal.returns
returns c = all_taken c.loop-side.envelope c.args.sides.now c.loop-side.side-index c.loop-side-test.false c.loop-side.invariant
