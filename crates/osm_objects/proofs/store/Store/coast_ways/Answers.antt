use Rattle.std.proofs.Common.{◌∙◌, ◌+◌, ◌++◌, ◌∷◌, [], List, ap, drop, rules, subst, sym, w64, ℤ}
use Rattle.std.specs.Prelude.{FitsSigned}
use Rattle.std.proofs.lemmas.Int.{to_z-of_z}
use Rattle.osm_objects.specs.declared.held.Placed.{Placed}
use Rattle.osm_objects.specs.CoastWays.{coast_ways, is_coast_way}
use Rattle.osm_objects.specs.Object.{id_of}
use Rattle.osm_objects.specs.Objects.{AreApart}
use Rattle.osm_objects.proofs.ApartLemmas.{coast_ways-distinct}
use Rattle.osm_objects.proofs.ListedLemmas.{all_listed, one_left_out, one_listed}
use Rattle.osm_objects.proofs.LookupLemmas.{coast_ways_others}
use Rattle.osm_objects.proofs.StoreLemmas.{id-from, objects_from}
use Rattle.osm_objects.proofs.store.Store.coast_ways.Goals.{then-is_coast_way+in_ok-push, else-is_coast_way}
use Rattle.osm_objects.proofs.store.Store.coast_ways.Goals as goal

pub loop-placed-init : goal.loop-placed-init
loop-placed-init c =
    ap (λ (ids : List ℤ). ids ++ coast_ways (objects_from c.as_slice-others.result.now)) c.new-list.ensures.items
    ∙ ap (λ (others : List Placed). coast_ways (objects_from others)) c.as_slice-others.ensures
    ∙ sym (coast_ways_others c.self.inside.nodes.items c.self.inside.others) ∙ ap coast_ways c.self.view_is

pub loop-placed-preserved : goal.loop-placed-preserved
loop-placed-preserved c =
    let k = c.loop-placed.placed-index in
    let others = c.as_slice-others.result.now in
    let e : Placed = c.placed-item.result in
    let list = c.loop-placed.list.items in
    let whole = coast_ways c.args.self.now in
    let after : List ℤ → List ℤ = λ ids. ids ++ coast_ways (objects_from (drop (k + 1) others)) in
    elim c.if-is_coast_way.branch [
      | then-is_coast_way+in_ok-push w ↦
          let fits : FitsSigned w64 e.id = search rules in
          ap after (ap (λ v. v.items) w.list-is ∙ w.in_ok-push.ensures.items ∙ ap (λ (id : ℤ). list ++ id ∷ []) (to_z-of_z w64 e.id fits ∙ sym (id-from e.id e.held)))
          ∙ one_listed is_coast_way id_of others k list whole e c.loop-placed-test.true c.placed-item.is (sym (c.is_coast_way.ensures e.id) ∙ w.if-is_coast_way.true) c.loop-placed.invariant
      | else-is_coast_way w ↦
          ap after (ap (λ v. v.items) w.list-is)
          ∙ one_left_out is_coast_way id_of others k list whole e c.loop-placed-test.true c.placed-item.is (sym (c.is_coast_way.ensures e.id) ∙ w.if-is_coast_way.false) c.loop-placed.invariant
    ]

pub returns-clause-list : goal.returns-clause-list
returns-clause-list c = all_listed is_coast_way id_of c.as_slice-others.result.now c.loop-placed.placed-index c.loop-placed.list.items (coast_ways c.args.self.now) c.loop-placed-test.false c.loop-placed.invariant

pub returns-in_err-push-clause-distinct : goal.returns-in_err-push-clause-distinct
returns-in_err-push-clause-distinct c = coast_ways-distinct c.args.self.now (subst AreApart c.self.view_is c.self.invariant.2)

pub returns-clause-distinct : goal.returns-clause-distinct
returns-clause-distinct c = coast_ways-distinct c.args.self.now (subst AreApart c.self.view_is c.self.invariant.2)
