use Rattle.std.proofs.Common.{◌≡◌, ◌∙◌, sym, ap, subst, None, List, ◌++◌, ◌∷◌, []}
use Rattle.std.specs.List.{find}
use Rattle.osm_elements.specs.declared.object.ObjectRef.{ObjectRef}
use Rattle.osm_elements.specs.declared.object.Object.{Object}
use Rattle.osm_objects.specs.Object.{ref_of}
use Rattle.osm_objects.specs.Objects.{object_at, AreApart}
use Rattle.osm_objects.specs.Held.{others_from}
use Rattle.osm_objects.specs.Others.{is_held_at, object_held, ref_held}
use Rattle.osm_objects.specs.Plain.{nodes_from}
use Rattle.osm_objects.specs.Merged.{merged, Fit}
use Rattle.osm_objects.proofs.LookupLemmas.{others_none}
use Rattle.osm_objects.proofs.AddLemmas.{absent_from, one_more_apart, held_last, held_fits}
use Rattle.osm_objects.proofs.store.Store.add_other.Goals as goal

-- nothing of its kind and id is there
pub push-requires : goal.push-requires
push-requires c =
    let of = ref_of c.args.object in
    let nodes = c.self.inside.nodes.items in
    let others = c.self.inside.others in
    let none : object_at (merged (nodes_from nodes) (others_from others)) of ≡ None = ap (λ (objects : List Object). object_at objects of) c.self.view_is ∙ absent_from c.args.object c.args.self.now c.requires.live c.requires.fresh in
    let is : ref_held c.in_ok-placed.placed ≡ of = ap ref_of c.in_ok-placed.ensures.object in
    subst (λ (r : ObjectRef). find (is_held_at r) others ≡ None) (sym is) (others_none of nodes others c.self.invariant.2 none)

pub invariant_of-self-2 : goal.invariant_of-self-2
invariant_of-self-2 c =
    let of = ref_of c.args.object in
    let nodes = c.self.inside.nodes.items in
    let others = c.self.inside.others in
    let placed = c.in_ok-placed.placed in
    let none : object_at (merged (nodes_from nodes) (others_from others)) of ≡ None = ap (λ (objects : List Object). object_at objects of) c.self.view_is ∙ absent_from c.args.object c.args.self.now c.requires.live c.requires.fresh in
    let fit : Fit (nodes_from nodes) (others_from others) placed.gap = subst (Fit (nodes_from nodes) (others_from others)) (sym c.in_ok-placed.ensures.gap) c.self.invariant.1 in
    let is : ref_held placed ≡ of = ap ref_of c.in_ok-placed.ensures.object in (
      c.self.invariant.0,
      held_fits nodes others c.push.new.self placed c.in_ok-push.ensures.ok fit,
      subst AreApart (sym (held_last nodes others c.push.new.self placed c.in_ok-push.ensures.ok fit))
          (one_more_apart (merged (nodes_from nodes) (others_from others)) (object_held placed) c.self.invariant.2 (ap (object_at (merged (nodes_from nodes) (others_from others))) is ∙ none)),
      c.self.invariant.3,
    )

pub returns-clause-added : goal.returns-clause-added
returns-clause-added c =
    let nodes = c.self.inside.nodes.items in
    let others = c.self.inside.others in
    let placed = c.in_ok-placed.placed in
    let fit : Fit (nodes_from nodes) (others_from others) placed.gap = subst (Fit (nodes_from nodes) (others_from others)) (sym c.in_ok-placed.ensures.gap) c.self.invariant.1 in
    held_last nodes others c.push.new.self placed c.in_ok-push.ensures.ok fit
    ∙ ap (λ (objects : List Object). objects ++ object_held placed ∷ []) c.self.view_is
    ∙ ap (λ (o : Object). c.args.self.now ++ o ∷ []) c.in_ok-placed.ensures.object
