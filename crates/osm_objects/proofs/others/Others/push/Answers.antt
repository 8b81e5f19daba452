-- The last object stands where it is told to stand; if memory is wanting for that, nothing is told.
use Rattle.std.proofs.Common.{◌≡◌, ◌∙◌, None, Some, ap, length, rules, subst, sym, ℕ}
use Rattle.std.specs.BTreeMap.{Updates}
use Rattle.std.specs.List.{find}
use Rattle.osm_elements.specs.declared.object.ObjectRef.{ObjectRef}
use Rattle.osm_objects.specs.Others.{is_held_at, ref_cmp, ref_held}
use Rattle.osm_objects.proofs.OthersLemmas.{kept_same, kept_after}
use Rattle.osm_objects.proofs.others.Others.push.Goals as goal

pub invariant_of-self-in-Ok : goal.invariant_of-self-in-Ok
invariant_of-self-in-Ok c =
    let list = c.self.inside.list.items in
    let of = c.of-of.result in
    let at : c.len.result ≡ length list = search rules in
    let here : find (is_held_at of) list ≡ None =
    ap (λ (r : ObjectRef). find (is_held_at r) list) c.of-of.ensures ∙ ap (find (is_held_at (ref_held c.args.placed))) c.self.view_is ∙ c.requires in
    kept_after list of c.self.inside.in_order c.self.inside.places c.insert.new.self here (subst (λ (n : ℕ). Updates ref_cmp c.self.inside.places c.insert.new.self of (Some n)) at c.in-Ok.ensures.updates) c.args.placed (sym c.of-of.ensures)
    c.push_last-in-Ok.result c.push_last-in-Ok.new.list.items c.push_last-in-Ok.ensures.ok c.push_last-in-Ok.ensures.err c.self.invariant

pub invariant_of-self-in-Err : goal.invariant_of-self-in-Err
invariant_of-self-in-Err c = kept_same c.self.inside.in_order c.self.inside.places c.insert.new.self c.self.inside.list.items c.in-Err.ensures.err c.self.invariant

pub invariant_of-self-in-Err-2 : goal.invariant_of-self-in-Err-2
invariant_of-self-in-Err-2 c = kept_same c.self.inside.in_order c.self.inside.places c.insert.new.self c.self.inside.list.items c.in-Err.ensures.err c.self.invariant

pub invariant_of-self-in-Err-3 : goal.invariant_of-self-in-Err-3
invariant_of-self-in-Err-3 c = kept_same c.self.inside.in_order c.self.inside.places c.insert.new.self c.self.inside.list.items c.in-Err.ensures.err c.self.invariant

pub invariant_of-self-in-Err-4 : goal.invariant_of-self-in-Err-4
invariant_of-self-in-Err-4 c = kept_same c.self.inside.in_order c.self.inside.places c.insert.new.self c.self.inside.list.items c.in-Err.ensures.err c.self.invariant
