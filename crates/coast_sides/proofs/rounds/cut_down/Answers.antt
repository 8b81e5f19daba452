-- One more ring.
use Rattle.std.proofs.Common.{sym}
use Rattle.std.specs.BTreeSet.{contains}
use Rattle.osm_lattice.specs.Seg.{seg_cmp}
use Rattle.coast_sides.proofs.CutRings.{found_by, ring_more}
use Rattle.coast_sides.proofs.rounds.cut_down.Goals as goal

pub add_left-requires : goal.add_left-requires
add_left-requires c =
    found_by c.orders_are_exact.ensures.segments c.conflicts_are_symmetric.ensures c.args.rings.now (contains seg_cmp c.args.crossed.now) c.requires c.ring-item.result (c.loop-ring.ring-index, c.loop-ring-test.true, sym c.ring-item.is)

pub loop-ring-preserved : goal.loop-ring-preserved
loop-ring-preserved c = ring_more c.args.rings.now c.loop-ring.ring-index c.ring-item.result c.loop-ring.left c.add_left.new.left c.loop-ring.cuts c.add_left.new.cuts c.loop-ring-test.true c.ring-item.is c.loop-ring.invariant c.in_ok-add_left.ensures
