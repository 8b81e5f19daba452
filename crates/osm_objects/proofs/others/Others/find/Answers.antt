use Rattle.std.proofs.Common.{◌≡◌, ◌∙◌, All, List, ap, false, length, subst, sym, take}
use Rattle.std.specs.BTreeMap.{get}
use Rattle.std.specs.List.{AllWithin, find}
use Rattle.osm_objects.specs.declared.held.Placed.{Placed}
use Rattle.osm_objects.specs.Others.{is_held_at, ref_cmp, TellPlaces}
use Rattle.osm_objects.proofs.OthersLemmas.{if_none_too, none_among}
use Rattle.osm_objects.proofs.others.Others.find.Goals as goal

pub returns-in-None-clause-none : goal.returns-in-None-clause-none
returns-in-None-clause-none c =
    let of = c.args.of in
    let list = c.self.inside.list.items in
    let n = c.self.inside.in_order in
    let lent = c.as_slice-list.ensures.value in
    let kept = c.self.invariant in
    let front = subst (All (λ (p : Placed). is_held_at of p ≡ false)) (c.split_at.ensures.front ∙ ap (take n) lent) c.in-None.ensures in
    if_none_too c.told.result (λ fails.
    let behind = subst (λ (l : List Placed). AllWithin (λ (p : Placed). is_held_at of p ≡ false) l n (length l)) lent (fails n (subst (TellPlaces (get ref_cmp c.self.inside.places) n) (sym lent) kept.2)) in
    sym (ap (find (is_held_at of)) c.self.view_is) ∙ none_among list of n kept.0 front behind) c.told.ensures.none
