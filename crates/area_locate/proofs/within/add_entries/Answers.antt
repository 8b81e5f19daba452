-- One more entry.
use Rattle.area_locate.proofs.FoundPlaces.{adds_entry}
use Rattle.area_locate.proofs.within.add_entries.Goals as goal

pub loop-entry-preserved : goal.loop-entry-preserved
loop-entry-preserved c =
    adds_entry c.args.envelope.now c.args.points.now c.args.entries.now c.loop-entry.entry-index _ c.args.found.now.items c.loop-entry.found.items c.add_place.new.found.items c.loop-entry-test.true c.loop-entry.invariant c.in_ok-add_place.ensures
