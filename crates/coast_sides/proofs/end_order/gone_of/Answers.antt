-- One segment more.
use Rattle.std.proofs.Common.{not, refl}
use Rattle.coast_sides.specs.KeptSegments.{is_left}
use Rattle.coast_sides.proofs.ListSteps.{kept_step}
use Rattle.coast_sides.proofs.end_order.gone_of.Goals as goal

pub loop-seg-preserved : goal.loop-seg-preserved
loop-seg-preserved c = kept_step (λ s. not (is_left c.args.left.now s)) c.args.segs.now c.loop-seg.seg-index c.seg-item.result (not (is_left c.args.left.now c.seg-item.result)) c.loop-seg.gone.items _ c.loop-seg-test.true c.seg-item.is refl c.loop-seg.invariant c.in_ok-add_gone.ensures
