-- One more object, in the row of nodes or among the others.
use Rattle.std.proofs.Common.{◌≡◌, ◌∙◌, ◌+◌, ℕ, cond, List, [], ◌∷◌, ◌++◌, refl, ap, None, Some, is_some, length, arith, true, false}
use Rattle.lists.proofs.ListsKit.{none_from}
use Rattle.osm_elements.specs.declared.object.ObjectRef.{ObjectRef}
use Rattle.osm_elements.specs.declared.object.Object.{Object}
use Rattle.osm_objects.specs.declared.held.Placed.{Placed}
use Rattle.osm_objects.specs.declared.plain.PlainNode.{PlainNode}
use Rattle.osm_objects.specs.Object.{is_live, ref_of, is_at}
use Rattle.osm_objects.specs.Objects.{object_at, is_duplicate, AreApart}
use Rattle.osm_objects.specs.Held.{object_from, others_from}
use Rattle.osm_objects.specs.Plain.{node_from, nodes_from}
use Rattle.osm_objects.specs.Merged.{merged, other, Other, Fit}
use Rattle.osm_objects.proofs.StoreLemmas.{At}
use Rattle.osm_objects.proofs.FoundLemmas.{passes, is_at-symmetric}
use Rattle.osm_objects.proofs.MergedLemmas.{find-append_none, plain_last, plain_fits, other_last, other_fits}

pub dup_from : (o : Object) (of : ObjectRef) (objects : List Object) → At o of → is_duplicate objects o ≡ is_some (object_at objects of)
dup_from o of objects at = rw (at.live, at.is) refl

-- a live object that isn't there already is absent
pub absent_from : (o : Object) (objects : List Object) → is_live o ≡ true → is_duplicate objects o ≡ false → object_at objects (ref_of o) ≡ None
absent_from o objects live fresh = none_from (object_at objects (ref_of o)) (rw live at fresh)

-- an object of another reference comes last
pub one_more_apart : (objects : List Object) (o : Object) → AreApart objects → object_at objects (ref_of o) ≡ None → AreApart (objects ++ o ∷ [])
one_more_apart [] o apart none = (refl, tt)
one_more_apart (u ∷ objects) o apart none =
    let p = passes (is_at (ref_of o) u) u (object_at objects (ref_of o)) none in (
      find-append_none (is_at (ref_of u)) objects (o ∷ []) apart.0 ∙ ap (λ b. cond b (Some o) None) (is_at-symmetric u o ∙ p.0),
      one_more_apart objects o apart.1 p.1,
    )

-- ---- in the row

nodes-push : (nodes : List PlainNode) (n : PlainNode) → nodes_from (nodes ++ n ∷ []) ≡ nodes_from nodes ++ node_from n ∷ []
nodes-push [] n = refl
nodes-push (m ∷ nodes) n = ap (λ (zs : List Object). node_from m ∷ zs) (nodes-push nodes n)

pub node_last : (nodes after : List PlainNode) (n : PlainNode) (others : List Placed) (since : ℕ) → after ≡ nodes ++ n ∷ [] → Fit (nodes_from nodes) (others_from others) since →
    merged (nodes_from after) (others_from others) ≡ merged (nodes_from nodes) (others_from others) ++ node_from n ∷ []
node_last nodes after n others since e f = ap (λ (ns : List PlainNode). merged (nodes_from ns) (others_from others)) e ∙ ap (λ (os : List Object). merged os (others_from others)) (nodes-push nodes n) ∙ plain_last (nodes_from nodes) (others_from others) since (node_from n) f

pub node_fits : (nodes after : List PlainNode) (n : PlainNode) (others : List Placed) (since : ℕ) → after ≡ nodes ++ n ∷ [] → Fit (nodes_from nodes) (others_from others) since →
    Fit (nodes_from after) (others_from others) (since + 1)
node_fits nodes after n others since e f = rw (e, nodes-push nodes n) (plain_fits (nodes_from nodes) (others_from others) since (node_from n) f)

-- ---- among the others

others-push : (others : List Placed) (p : Placed) → others_from (others ++ p ∷ []) ≡ others_from others ++ other p.gap (object_from p.id p.held) ∷ []
others-push [] p = refl
others-push (q ∷ others) p = ap (λ (zs : List (Other Object)). other q.gap (object_from q.id q.held) ∷ zs) (others-push others p)

pub held_last : (nodes : List PlainNode) (others after : List Placed) (p : Placed) → after ≡ others ++ p ∷ [] → Fit (nodes_from nodes) (others_from others) p.gap →
    merged (nodes_from nodes) (others_from after) ≡ merged (nodes_from nodes) (others_from others) ++ object_from p.id p.held ∷ []
held_last nodes others after p is f =
    ap (λ (all : List Placed). merged (nodes_from nodes) (others_from all)) is ∙ ap (merged (nodes_from nodes)) (others-push others p) ∙ other_last (nodes_from nodes) (others_from others) p.gap (object_from p.id p.held) f

pub held_fits : (nodes : List PlainNode) (others after : List Placed) (p : Placed) → after ≡ others ++ p ∷ [] → Fit (nodes_from nodes) (others_from others) p.gap →
    Fit (nodes_from nodes) (others_from after) 0
held_fits nodes others after p is f = rw (is, others-push others p) (other_fits (nodes_from nodes) (others_from others) p.gap (object_from p.id p.held) f)

pub nodes_length : (nodes : List PlainNode) → length (nodes_from nodes) ≡ length nodes
nodes_length [] = refl
nodes_length (n ∷ nodes) = let e = nodes_length nodes in omega arith
