-- One more end; and all.
use Rattle.std.proofs.Common.{refl}
use Rattle.coast_sides.proofs.PassedEnds.{all_passed}
use Rattle.coast_sides.proofs.junctions.busy_nodes.Goals as goal

pub returns : goal.returns
returns c = let past = c.in_default-next_end.ensures.none refl in all_passed c.args.segs.now c.args.ends.now c.loop-next.lower c.loop-next.upper c.loop-next.passing c.requires past.0 past.1 c.loop-next.invariant.2
