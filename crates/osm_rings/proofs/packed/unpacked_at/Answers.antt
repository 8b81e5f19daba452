-- One more edge.
use Rattle.std.proofs.Common.{arith, get_or, length, subst, sym, ◌<◌, ◌∙◌}
use Rattle.osm_rings.specs.Packed.{IsPackedAs}
use Rattle.osm_rings.proofs.Placed.{placed-more}
use Rattle.osm_rings.proofs.packed.unpacked_at.Goals as goal

pub loop-place-preserved : goal.loop-place-preserved
loop-place-preserved c es packed =
    let i = c.loop-place.place-index in let k = get_or c.args.places.now i 0 in
    let x = c.unpack.result in let p = c.index-all-place.result in
    let inside : k < length es = let a = c.requires i 0 c.loop-place-test.true in let b = packed.long in omega arith in
    let one : IsPackedAs (get_or es k x) p = subst (IsPackedAs (get_or es k x)) (sym c.index-all-place.is) (packed.each k x p inside) in
    c.in_ok-push.ensures.items
    ∙ placed-more es c.args.places.now i c.loop-place.found.items x c.loop-place-test.true (c.loop-place.invariant es packed) (c.unpack.ensures (get_or es k x) one) inside
