use Rattle.std.proofs.Common.{◌≡◌, ◌∙◌, sym, ap, subst, None, List, ◌++◌, ◌∷◌, [], arith, length}
use Rattle.osm_elements.specs.declared.object.Object.{Object}
use Rattle.osm_objects.specs.Object.{ref_of}
use Rattle.osm_objects.specs.Objects.{object_at, AreApart}
use Rattle.osm_objects.specs.Held.{others_from}
use Rattle.osm_objects.specs.Plain.{node_from, nodes_from, HaveRisingIds}
use Rattle.osm_objects.specs.Merged.{merged}
use Rattle.osm_objects.proofs.MergedLemmas.{since_most}
use Rattle.osm_objects.proofs.AddLemmas.{one_more_apart, node_last, node_fits, nodes_length}
use Rattle.osm_objects.proofs.store.Store.add_plain.Goals as goal

pub overflow_add-self : goal.overflow_add-self
overflow_add-self c =
    let most = since_most (nodes_from c.self.inside.nodes.items) (others_from c.self.inside.others) c.self.inside.since c.self.invariant.1 in
    let n = nodes_length c.self.inside.nodes.items in
    let len = c.as_slice.ensures.len in
    let same : length c.as_slice.result.now ≡ length c.self.inside.nodes.items = ap length c.as_slice.ensures.value in
    omega arith

pub invariant_of-self-2 : goal.invariant_of-self-2
invariant_of-self-2 c =
    let nodes = c.self.inside.nodes.items in
    let others = c.self.inside.others in
    let n = c.in-Some.node in
    let here : object_at (merged (nodes_from nodes) (others_from others)) (ref_of (node_from n)) ≡ None = ap (object_at (merged (nodes_from nodes) (others_from others))) (ap ref_of c.in-Some.ensures) ∙ ap (λ (objects : List Object). object_at objects (ref_of c.args.object.now)) c.self.view_is ∙ c.requires in
    let pushed = c.in_ok-push_last.ensures.ok in
    let rise = rw c.as_slice.ensures.value at (c.is_above.ensures c.if-not-is_above.false) in (
      subst HaveRisingIds (sym pushed) rise,
      node_fits nodes c.push_last.new.list.items n others c.self.inside.since pushed c.self.invariant.1,
      subst AreApart (sym (node_last nodes c.push_last.new.list.items n others c.self.inside.since pushed c.self.invariant.1)) (one_more_apart (merged (nodes_from nodes) (others_from others)) (node_from n) c.self.invariant.2 here),
      c.self.invariant.3,
    )

pub returns-clause-added : goal.returns-clause-added
returns-clause-added c _ =
    let nodes = c.self.inside.nodes.items in
    let others = c.self.inside.others in
    let n = c.in-Some.node in
    node_last nodes c.push_last.new.list.items n others c.self.inside.since c.in_ok-push_last.ensures.ok c.self.invariant.1
    ∙ ap (λ (objects : List Object). objects ++ node_from n ∷ []) c.self.view_is ∙ ap (λ (o : Object). c.args.self.now ++ o ∷ []) c.in-Some.ensures
