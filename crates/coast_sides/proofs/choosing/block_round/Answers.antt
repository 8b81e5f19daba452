-- One more segment.
use Rattle.std.proofs.Common.{Contains, subst, sym}
use Rattle.std.specs.BTreeSet.{contains}
use Rattle.osm_lattice.specs.Seg.{seg_cmp}
use Rattle.coast_sides.specs.ChoiceSteps.{knows}
use Rattle.coast_sides.proofs.Blocking.{next_blocked}
use Rattle.coast_sides.proofs.choosing.block_round.Goals as goal

pub loop-seg-preserved : goal.loop-seg-preserved
loop-seg-preserved c = λ segs held all before.
    let seg = c.seg-item.result in
    next_blocked c.orders_are_exact.ensures.segments c.conflicts_are_symmetric.ensures segs held c.args.round.now c.loop-seg.seg-index seg (knows c.loop-seg.foes) (knows c.block_foes.new.foes)
    (contains seg_cmp c.loop-seg.blocked) (contains seg_cmp c.block_foes.new.blocked) c.loop-seg-test.true c.seg-item.is
    (subst (Contains segs) (sym c.seg-item.is) (all c.loop-seg.seg-index seg c.loop-seg-test.true)) (c.loop-seg.invariant segs held all before)
    c.in_ok-block_foes.ensures.blocked c.in_ok-block_foes.ensures.left
