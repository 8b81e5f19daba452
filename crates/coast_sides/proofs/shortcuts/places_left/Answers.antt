-- One more location.
use Rattle.std.proofs.Common.{refl, not}
use Rattle.coast_sides.proofs.LeftRuns.{place_all, place_more}
use Rattle.coast_sides.proofs.shortcuts.places_left.Goals as goal

pub loop-place-preserved : goal.loop-place-preserved
loop-place-preserved c = place_more c.args.marks.now c.loop-place.place c.index-marks-place.result (not c.index-marks-place.result.1) c.loop-place.left.items c.add_place.new.left.items c.loop-place-test.true c.index-marks-place.is refl c.loop-place.invariant c.in_ok-add_place.ensures

pub returns : goal.returns
returns c = place_all c.args.marks.now c.loop-place.place c.loop-place.left.items c.loop-place-test.false c.loop-place.invariant
