-- One more pair.
use Rattle.coast_sides.specs.Sorting.{is_in_pair}
use Rattle.coast_sides.proofs.ListSteps.{any_step}
use Rattle.coast_sides.proofs.conflicting.segments_of.Goals as goal

pub loop-pair-preserved : goal.loop-pair-preserved
loop-pair-preserved c = λ s. any_step (is_in_pair s) c.args.pairs.now c.loop-pair.pair-index c.pair-item.result _ _ c.loop-pair-test.true c.pair-item.is (c.loop-pair.invariant s) (c.in_ok-add_pair.ensures s)
