-- One more ring.
use Rattle.std.proofs.Common.{◌<◌, ℕ, length, get_or, refl}
use Rattle.std.specs.BTreeSet.{contains}
use Rattle.std.specs.Ordering.{int_cmp}
use Rattle.std.proofs.lemmas.List.{get_or_default, take_all}
use Rattle.std.proofs.lemmas.Option.{slice_get_read}
use Rattle.osm_lattice.specs.Seg.{seg_cmp}
use Rattle.coast_sides.specs.ChoiceSteps.{knows}
use Rattle.coast_sides.proofs.KeptRings.{names_are, one_held}
use Rattle.coast_sides.proofs.choosing.names_along.Goals as goal

pub loop-place-preserved : goal.loop-place-preserved
loop-place-preserved c = λ is_kept is.
    let rings = c.args.rings.now in
    let places = c.args.places.now in
    let i = c.loop-place.place-index in
    let inside = c.loop-place-test.true in
    let place : ℕ = get_or places i 0 in
    let ring = c.index-rings-place.result in
    let within : place < length rings = c.requires.order.within i 0 inside in
    one_held c.conflicts_are_symmetric.ensures rings c.requires.names places c.requires.order is_kept is i place ring (contains int_cmp c.loop-place.names) (contains int_cmp c.choose.new.names)
    (knows c.loop-place.foes) (knows c.choose.new.foes) (contains seg_cmp c.loop-place.blocked) (contains seg_cmp c.choose.new.blocked) inside
    (get_or_default places i 0 place inside) (slice_get_read rings (length rings) place ring refl within c.index-rings-place.is) (c.loop-place.invariant is_kept is)
    c.in_ok-choose.ensures.names c.in_ok-choose.ensures.blocked

pub returns : goal.returns
returns c = λ is_kept is ring member.
    let places = c.args.places.now in
    let i = c.loop-place.place-index in
    names_are c.conflicts_are_symmetric.ensures c.args.rings.now c.requires.names places c.requires.order is_kept is i (contains int_cmp c.loop-place.names) (knows c.loop-place.foes) (contains seg_cmp c.loop-place.blocked)
    (take_all i places c.loop-place-test.false) (c.loop-place.invariant is_kept is) ring member
