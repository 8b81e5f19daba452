-- One more segment.
use Rattle.std.specs.BTreeSet.{contains}
use Rattle.osm_lattice.specs.Seg.{seg_cmp}
use Rattle.coast_sides.proofs.KnownFoes.{one_added}
use Rattle.coast_sides.proofs.foes.add_all.Goals as goal

pub loop-seg-preserved : goal.loop-seg-preserved
loop-seg-preserved c = λ s.
    one_added s (contains seg_cmp c.args.segs.now s) c.args.more.now c.loop-seg.seg-index c.seg-item.result (contains seg_cmp c.loop-seg.segs s) (contains seg_cmp c.insert.new.self s)
    c.loop-seg-test.true c.seg-item.is (c.loop-seg.invariant s) (c.in_ok-insert.ensures.updates.0 s)
