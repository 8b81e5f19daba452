-- One more way.
use Rattle.std.proofs.Common.{FitsSigned, w64, get_or, pos, rules}
use Rattle.std.proofs.lemmas.Int.{to_z-of_z}
use Rattle.coast_filter.specs.ByIds.{way_line_by_id}
use Rattle.coast_filter.proofs.OneMore.{added}
use Rattle.coast_filter.proofs.filtering.put_ways.Goals as goal

pub loop-way-preserved : goal.loop-way-preserved
loop-way-preserved c =
    let ways = c.args.ways.now in
    let i = c.loop-way.way-index in
    let fits : FitsSigned w64 (get_or ways i (pos 0)) = search rules in
    let same = to_z-of_z w64 (get_or ways i (pos 0)) fits in
    added (way_line_by_id c.args.store.now) ways i _ c.loop-way-test.true same c.args.text.now.items c.loop-way.text.items c.put_held_way.new.text.items c.loop-way.invariant c.in_ok-put_held_way.ensures
