use Rattle.std.proofs.Common.{sym, ◌∙◌}
use Rattle.osm_segments.proofs.TriedPairs.{some_of, told_more}
use Rattle.osm_segments.proofs.ranges.telling.try_pair.Goals as goal

pub returns-in_ok-push-clause-grown : goal.returns-in_ok-push-clause-grown
returns-in_ok-push-clause-grown c =
    let some = some_of c.pair_at.result (sym c.is_some.ensures ∙ c.if-is_some.true) in
    told_more c.args.segs.now c.args.told.now.items c.push.new.self.items c.in_order-places.result c.args.i c.args.j some.0 c.in_ok-push.ensures.items (sym c.pair_at.ensures ∙ some.1) c.in_order-places.ensures
