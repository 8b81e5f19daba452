-- One more piece.
use Rattle.std.proofs.Common.{arith}
use Rattle.coast_sides.proofs.RoundSteps.{piece_more, pieces_all}
use Rattle.coast_sides.proofs.watering.add_pieces.Goals as goal

pub loop-place-preserved : goal.loop-place-preserved
loop-place-preserved c = piece_more c.args.nodes.now c.loop-place.place c.index-nodes-place.result c.index-nodes-place-in-loop-place.result c.args.segs.now.items c.loop-place.segs.items c.add_step.new.segs.items (let l = c.loop-place-test.true in omega arith) c.index-nodes-place.is c.index-nodes-place-in-loop-place.is c.loop-place.invariant c.in_ok-add_step.ensures

pub returns : goal.returns
returns c = pieces_all c.args.nodes.now c.loop-place.place c.args.segs.now.items c.loop-place.segs.items c.loop-place-test.false c.loop-place.invariant
