-- One more pair.
use Rattle.coast_sides.proofs.KnownFoes.{pair_added}
use Rattle.coast_sides.proofs.foes.foes_of.Goals as goal

pub loop-pair-preserved : goal.loop-pair-preserved
loop-pair-preserved c = λ s t.
    pair_added s t c.args.pairs.now c.loop-pair.pair-index c.pair-item.result _ _ _ c.loop-pair-test.true c.pair-item.is (c.loop-pair.invariant s t) (c.in_ok-add_foe.ensures s t) (c.in_ok-add_foe-2.ensures s t)
