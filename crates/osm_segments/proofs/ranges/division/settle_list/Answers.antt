use Rattle.std.proofs.lemmas.Result.{on_ok_weaker}
use Rattle.osm_segments.specs.Ranges.{AreSettled}
use Rattle.osm_segments.proofs.TriedPairs.{told_or_clear}
use Rattle.osm_segments.proofs.ranges.division.settle_list.Goals as goal

pub returns-clause-told : goal.returns-clause-told
returns-clause-told c =
    let segs = c.args.segs.now in let plane = c.whole_plane.result in let new = c.settle_strip.new.told.items in
    on_ok_weaker c.settle_strip.result
    (λ (settled : AreSettled segs new plane c.in_ok-all.all.items).
    told_or_clear segs new plane c.in_ok-all.all.items c.whole_plane.ensures.low c.whole_plane.ensures.high c.in_ok-all.ensures.long c.in_ok-all.ensures.each settled)
    c.settle_strip.ensures.settled
