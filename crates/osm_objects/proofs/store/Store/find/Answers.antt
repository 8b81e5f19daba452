use Rattle.std.proofs.Common.{◌∙◌, sym, ap, List}
use Rattle.osm_elements.specs.declared.object.Object.{Object}
use Rattle.osm_objects.specs.Objects.{object_at}
use Rattle.osm_objects.specs.declared.plain.PlainNode.{PlainNode}
use Rattle.osm_objects.specs.Plain.{nodes_from}
use Rattle.osm_objects.proofs.LookupLemmas.{found_node, found_held, found_nowhere}
use Rattle.osm_objects.proofs.store.Store.find.Goals as goal

pub returns-in-Some : goal.returns-in-Some
returns-in-Some c =
    sym (found_node c.args.of c.self.inside.nodes.items c.self.inside.others c.in-Some.node c.self.invariant.2 (ap (λ (nodes : List PlainNode). object_at (nodes_from nodes) c.args.of) (sym c.as_slice.ensures.value) ∙ sym c.in-Some.ensures)) ∙ ap (λ (objects : List Object). object_at objects c.args.of) c.self.view_is

pub returns-in-Some-find : goal.returns-in-Some-find
returns-in-Some-find c =
    sym (found_held c.args.of c.self.inside.nodes.items c.self.inside.others c.in-Some-find.placed.now c.self.invariant.2 c.in-Some-find.ensures.some.0 c.in-Some-find.ensures.some.1)
    ∙ ap (λ (objects : List Object). object_at objects c.args.of) c.self.view_is

pub returns-in-None : goal.returns-in-None
returns-in-None c =
    sym (found_nowhere c.args.of c.self.inside.nodes.items c.self.inside.others (ap (λ (nodes : List PlainNode). object_at (nodes_from nodes) c.args.of) (sym c.as_slice.ensures.value) ∙ sym c.in_default.ensures) c.in-None.ensures.none)
    ∙ ap (λ (objects : List Object). object_at objects c.args.of) c.self.view_is
