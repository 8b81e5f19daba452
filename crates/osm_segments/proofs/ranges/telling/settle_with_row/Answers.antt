use Rattle.osm_segments.proofs.SettledPairs.{settled_beside}
use Rattle.osm_segments.proofs.ranges.telling.settle_with_row.Goals as goal

pub returns-clause-settled : goal.returns-clause-settled
returns-clause-settled c s k =
    settled_beside c.args.segs.now c.try_some.new.told.items c.args.strip c.part_along-part.result c.args.row.now c.requires c.args.t c.part_along-part.ensures.low c.part_along-part.ensures.high
    c.end_of_left-from.result c.begin_of_right-to.result c.end_of_left-from.ensures.within c.end_of_left-from.ensures.left c.begin_of_right-to.ensures.right c.in_ok-try_some.ensures.tried s k
