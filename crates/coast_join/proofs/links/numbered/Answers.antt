-- One more location.
use Rattle.std.proofs.Common.{◌≡◌, ◌<◌, ◌+◌, ◌++◌, ◌∷◌, [], length, take, unwrap_or, sym, ap, ◌∙◌, arith, rules}
use Rattle.std.specs.BTreeMap.{get}
use Rattle.std.proofs.lemmas.List.{take_more, length-take-le}
use Rattle.std.proofs.lemmas.List.Sums.{count_by-le-length}
use Rattle.std.specs.Ordering.{is_eq}
use Rattle.osm_lattice.specs.declared.loc.Loc.{Loc}
use Rattle.osm_lattice.specs.Loc.{loc_cmp}
use Rattle.coast_join.proofs.Numbering.{counted_push, numbered_push}
use Rattle.coast_join.proofs.links.numbered.Goals as goal

pub overflow_add-number : goal.overflow_add-number
overflow_add-number c =
    let xs = take c.loop-loc.loc-index c.args.locs.now in
    let number : c.unwrap_or-number.result ≡ unwrap_or (get loc_cmp c.loop-loc.stood c.loc-item.result) 0 = search rules in
    let counted = c.loop-loc.invariant.counted c.loc-item.result in
    let most = count_by-le-length (λ (q : Loc). is_eq (loc_cmp q c.loc-item.result)) xs in
    let long = length-take-le c.loop-loc.loc-index c.args.locs.now (omega arith) in
    omega arith

pub loop-loc-preserved : goal.loop-loc-preserved
loop-loc-preserved c =
    let i = c.loop-loc.loc-index in
    let locs = c.args.locs.now in
    let p = c.loc-item.result in
    let inside : i < length locs = c.loop-loc-test.true in
    let number : c.unwrap_or-number.result ≡ unwrap_or (get loc_cmp c.loop-loc.stood p) 0 = search rules in
    let more : take (i + 1) locs ≡ take i locs ++ p ∷ [] = take_more locs i p inside ∙ ap (λ (q : Loc). take i locs ++ q ∷ []) (sym c.loc-item.is) in
    let counts = counted_push c.orders_are_exact.ensures.locations (take i locs) (get loc_cmp c.loop-loc.stood) (get loc_cmp c.insert.new.self) p c.unwrap_or-number.result c.loop-loc.invariant.counted number c.in_ok-insert.ensures.updates.0 in
    let long = length-take-le i locs (omega arith) in
    record {
      counted = rw more counts;
      sized = search rules;
      numbered = rw (more, c.in_ok-push.ensures.items) (numbered_push (take i locs) c.loop-loc.numbered.items p c.unwrap_or-number.result (omega arith) (number ∙ c.loop-loc.invariant.counted p) c.loop-loc.invariant.numbered);
    }
