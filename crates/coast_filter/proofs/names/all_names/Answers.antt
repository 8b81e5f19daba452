-- The names of one more way.
use Rattle.std.proofs.Common.{FitsSigned, w64, get_or, pos, rules}
use Rattle.std.proofs.lemmas.Int.{to_z-of_z}
use Rattle.coast_filter.specs.ByIds.{way_nodes}
use Rattle.coast_filter.proofs.OneMore.{begun}
use Rattle.coast_filter.proofs.names.all_names.Goals as goal

pub loop-way-preserved : goal.loop-way-preserved
loop-way-preserved c =
    let ways = c.args.ways.now in
    let i = c.loop-way.way-index in
    let fits : FitsSigned w64 (get_or ways i (pos 0)) = search rules in
    let same = to_z-of_z w64 (get_or ways i (pos 0)) fits in
    begun (way_nodes c.args.store.now) ways i _ c.loop-way-test.true same c.loop-way.names.items c.add_names_of.new.names.items c.loop-way.invariant c.in_ok-add_names_of.ensures
