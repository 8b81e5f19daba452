-- One more location.
use Rattle.std.proofs.Common.{◌≡◌, ◌<◌, ◌+◌, ◌++◌, ◌∷◌, [], Some, length, take, refl, sym, ap, subst, ◌∙◌, arith}
use Rattle.std.specs.BTreeMap.{get}
use Rattle.std.specs.List.{slice_get}
use Rattle.std.proofs.lemmas.List.{take_more, take_all, length-take-le}
use Rattle.std.proofs.lemmas.Option.{slice_get_read, get_or_from_slice_get}
use Rattle.osm_lattice.specs.declared.loc.Loc.{Loc}
use Rattle.coast_join.specs.Links.{key_cmp}
use Rattle.coast_join.proofs.Numbering.{ArePlaces, numbered_sized, numbered_at, places_push}
use Rattle.coast_join.proofs.links.places.Goals as goal

pub loop-place-preserved : goal.loop-place-preserved
loop-place-preserved c =
    let i = c.loop-place.place in
    let locs = c.args.locs.now in
    let keys = c.in_ok-keys.keys.items in
    let items_are = c.deref-key-items.ensures.value in
    let sized : length keys ≡ length locs = numbered_sized locs keys c.in_ok-keys.ensures in
    let inside : i < length c.deref-key-items.result.now = c.loop-place-test.true in
    let inside_keys : i < length keys = subst (λ xs. i < length xs) items_are inside in
    let read : slice_get keys i ≡ Some c.key-item.result = subst (λ xs. slice_get xs i ≡ Some c.key-item.result) items_are (slice_get_read c.deref-key-items.result.now (length c.deref-key-items.result.now) i c.key-item.result refl inside c.key-item.is) in
    let at = numbered_at locs keys i c.key-item.result c.in_ok-keys.ensures read in
    let within : i < length locs = omega arith in
    let more : take (i + 1) locs ≡ take i locs ++ c.key-item.result.0 ∷ [] = take_more locs i c.key-item.result.0 within ∙ ap (λ (q : Loc). take i locs ++ q ∷ []) (get_or_from_slice_get locs i c.key-item.result.0 c.key-item.result.0 at.0) in
    let long : length (take i locs) ≡ i = length-take-le i locs (omega arith) in
    subst (λ xs. ArePlaces xs (get key_cmp c.insert.new.self)) (sym more)
    (places_push c.orders_are_exact.ensures.locations (take i locs) (get key_cmp c.loop-place.places) (get key_cmp c.insert.new.self) c.key-item.result i (sym long) at.1 c.loop-place.invariant c.in_ok-insert.ensures.updates.0)

pub returns : goal.returns
returns c =
    let locs = c.args.locs.now in
    let keys = c.in_ok-keys.keys.items in
    let sized : length keys ≡ length locs = numbered_sized locs keys c.in_ok-keys.ensures in
    let items_are = ap length c.deref-key-items.ensures.value in
    let whole : take c.loop-place.place locs ≡ locs = take_all c.loop-place.place locs (omega arith) in
    subst (λ xs. ArePlaces xs (get key_cmp c.loop-place.places)) whole c.loop-place.invariant
