-- What one more way lacks.
use Rattle.std.proofs.Common.{FitsSigned, w64, get_or, pos, rules}
use Rattle.std.proofs.lemmas.Int.{to_z-of_z}
use Rattle.osm_area.specs.Missing.{way_missing}
use Rattle.osm_area.proofs.WholeWays.{pushed}
use Rattle.osm_area.proofs.missing.all_missing.Goals as goal

pub loop-way-preserved : goal.loop-way-preserved
loop-way-preserved c =
    let ways = c.args.ways.now in
    let i = c.loop-way.way-index in
    let fits : FitsSigned w64 (get_or ways i (pos 0)) = search rules in
    pushed (way_missing c.args.store.now) ways i (pos 0) _ c.loop-way-test.true (to_z-of_z w64 (get_or ways i (pos 0)) fits) c.loop-way.missing.items c.add_missing.new.missing.items c.loop-way.invariant c.in_ok-add_missing.ensures
