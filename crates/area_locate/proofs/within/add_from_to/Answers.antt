-- One more stretch.
use Rattle.area_locate.proofs.FoundPlaces.{adds_stretch}
use Rattle.area_locate.proofs.within.add_from_to.Goals as goal

pub loop-place-preserved : goal.loop-place-preserved
loop-place-preserved c =
    adds_stretch c.args.envelope.now c.args.points.now c.args.from c.loop-place.place _ c.args.found.now.items c.loop-place.found.items c.add_next.new.found.items c.loop-place.invariant c.in_ok-place.ensures.2
