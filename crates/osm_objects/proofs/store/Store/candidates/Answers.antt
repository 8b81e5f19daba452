use Rattle.std.proofs.Common.{◌∙◌, ◌+◌, ◌++◌, ◌∷◌, [], List, IsSome, ap, drop, subst, sym}
use Rattle.std.specs.Prelude.{All}
use Rattle.std.proofs.lemmas.List.Elements.{All-from_recursion}
use Rattle.osm_elements.specs.declared.object.ObjectRef.{ObjectRef}
use Rattle.osm_objects.specs.Object.{ref_of}
use Rattle.osm_objects.specs.Objects.{object_at, AreApart}
use Rattle.osm_objects.specs.Candidates.{candidates, is_candidate}
use Rattle.osm_objects.specs.declared.held.Placed.{Placed}
use Rattle.osm_objects.proofs.ListedLemmas.{all_listed, one_left_out, one_listed}
use Rattle.osm_objects.proofs.LookupLemmas.{candidates_others}
use Rattle.osm_objects.proofs.StoreLemmas.{objects_from}
use Rattle.osm_objects.proofs.FoundLemmas.{filter-held}
use Rattle.osm_objects.proofs.store.Store.candidates.Goals.{then-is_candidate+in_ok-push, else-is_candidate}
use Rattle.osm_objects.proofs.store.Store.candidates.Goals as goal

pub loop-placed-init : goal.loop-placed-init
loop-placed-init c =
    let choice = c.args.choice.now in
    ap (λ (list : List ObjectRef). list ++ candidates choice (objects_from c.as_slice-others.result.now)) c.in_ok-list.ensures.items
    ∙ ap (λ (others : List Placed). candidates choice (objects_from others)) c.as_slice-others.ensures
    ∙ sym (candidates_others choice c.self.inside.nodes.items c.self.inside.others) ∙ ap (candidates choice) c.self.view_is

pub loop-placed-preserved : goal.loop-placed-preserved
loop-placed-preserved c =
    let choice = c.args.choice.now in
    let k = c.loop-placed.placed-index in
    let others = c.as_slice-others.result.now in
    let e : Placed = c.placed-item.result in
    let list = c.loop-placed.list.items in
    let whole = candidates choice c.args.self.now in
    let after : List ObjectRef → List ObjectRef = λ list. list ++ candidates choice (objects_from (drop (k + 1) others)) in
    elim c.if-is_candidate.branch [
      | then-is_candidate+in_ok-push w ↦
          ap after (ap (λ v. v.items) w.list-is ∙ w.in_ok-push.ensures.items ∙ ap (λ (of : ObjectRef). list ++ of ∷ []) w.of.ensures)
          ∙ one_listed (is_candidate choice) ref_of others k list whole e c.loop-placed-test.true c.placed-item.is (sym (c.is_candidate.ensures e.id) ∙ w.if-is_candidate.true) c.loop-placed.invariant
      | else-is_candidate w ↦
          ap after (ap (λ v. v.items) w.list-is)
          ∙ one_left_out (is_candidate choice) ref_of others k list whole e c.loop-placed-test.true c.placed-item.is (sym (c.is_candidate.ensures e.id) ∙ w.if-is_candidate.false) c.loop-placed.invariant
    ]

pub returns-clause-list : goal.returns-clause-list
returns-clause-list c =
    let choice = c.args.choice.now in
    all_listed (is_candidate choice) ref_of c.as_slice-others.result.now c.loop-placed.placed-index c.loop-placed.list.items (candidates choice c.args.self.now) c.loop-placed-test.false c.loop-placed.invariant

pub returns-clause-held : goal.returns-clause-held
returns-clause-held c =
    let objects = c.args.self.now in
    let choice = c.args.choice.now in
    let whole = all_listed (is_candidate choice) ref_of c.as_slice-others.result.now c.loop-placed.placed-index c.loop-placed.list.items (candidates choice objects) c.loop-placed-test.false c.loop-placed.invariant in
    let AllHeld : List ObjectRef → Type 0 = λ list. All (λ of. IsSome (object_at objects of)) list in
    subst AllHeld (sym whole) (All-from_recursion (λ of. IsSome (object_at objects of)) (candidates choice objects) (filter-held (is_candidate choice) objects (subst AreApart c.self.view_is c.self.invariant.2)))
