-- The ends of one more segment.
use Rattle.coast_sides.specs.WorldSides.{on_side}
use Rattle.coast_sides.proofs.SideNodes.{more_ends}
use Rattle.coast_sides.proofs.side_nodes.add_ends.Goals as goal

pub loop-seg-preserved : goal.loop-seg-preserved
loop-seg-preserved c = more_ends (on_side c.args.side) c.args.land.now c.loop-seg.seg-index c.seg-item.result c.args.nodes.now.items c.loop-seg.nodes.items c.add_if_on.new.nodes.items c.add_if_on-in-loop-seg.new.nodes.items
    c.loop-seg-test.true c.seg-item.is c.loop-seg.invariant c.in_ok-add_if_on.ensures c.in_ok-add_if_on-2.ensures
