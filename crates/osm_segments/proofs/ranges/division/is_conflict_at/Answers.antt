use Rattle.std.proofs.Common.{arith, sym, ◌<◌, ◌∙◌}
use Rattle.osm_segments.proofs.ToldPlaces.{shown}
use Rattle.osm_segments.proofs.TriedPairs.{some_of}
use Rattle.osm_segments.proofs.ranges.division.is_conflict_at.Goals as goal

pub returns : goal.returns
returns c met none =
    let some = some_of c.pair_at.result (sym c.is_some.ensures ∙ met) in
    let before : c.args.p.first < c.args.p.second = omega arith in
    shown c.args.segs.now c.args.p some.0 before (sym c.pair_at.ensures ∙ some.1) none
