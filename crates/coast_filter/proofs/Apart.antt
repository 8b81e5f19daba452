-- Objects no two of which have one kind and id: each is what is found by its kind and id.
use Rattle.std.proofs.Common.{◌≡◌, ◌∙◌, refl, ap, subst, cond, Bool, false, None, Some, inl, inr, List, [], ◌∷◌, All}
use Rattle.std.proofs.lemmas.List.Elements.{All-cons, All-head, All-nil, All-tail}
use Rattle.osm_elements.specs.declared.object.Object.{Object}
use Rattle.osm_objects.specs.Object.{is_at, ref_of}
use Rattle.osm_objects.specs.Objects.{AreApart, object_at}
use Rattle.osm_objects.proofs.ObjectsKit.{is_at-itself, is_at-symmetric, passes}
use Rattle.lists.specs.Member.{EachPair, In}
use Rattle.lists.proofs.ListsKit.{in-all}

-- the second isn't at the place of the first
abbrev pub Differ : Object → Object → Type 0
Differ o u = is_at (ref_of o) u ≡ false

all_differ : (o : Object) (us : List Object) → object_at us (ref_of o) ≡ None → All (Differ o) us
all_differ o [] none = All-nil (Differ o)
all_differ o (u ∷ us) none =
    let part = passes (is_at (ref_of o) u) u (object_at us (ref_of o)) none in All-cons (Differ o) u us part.0 (all_differ o us part.1)

none_there : (o : Object) (us : List Object) → All (Differ o) us → object_at us (ref_of o) ≡ None
none_there o [] all = refl
none_there o (u ∷ us) all = rw (All-head (Differ o) u us all) (none_there o us (All-tail (Differ o) u us all))

pub pairs_differ : (os : List Object) → AreApart os → EachPair Differ os
pairs_differ [] apart = tt
pairs_differ (o ∷ os) apart = (all_differ o os apart.0, pairs_differ os apart.1)

pub are_apart : (os : List Object) → EachPair Differ os → AreApart os
are_apart [] pairs = tt
are_apart (o ∷ os) pairs = (none_there o os pairs.0, are_apart os pairs.1)

pub found_itself : (os : List Object) (o : Object) → EachPair Differ os → In o os → object_at os (ref_of o) ≡ Some o
found_itself [] o pairs i = absurd i
found_itself (u ∷ os) o pairs (inl e) = subst (λ v. object_at (v ∷ os) (ref_of o) ≡ Some o) e (ap (λ (b : Bool). cond b (Some o) (object_at os (ref_of o))) (is_at-itself o))
found_itself (u ∷ os) o pairs (inr i) =
    ap (λ (b : Bool). cond b (Some u) (object_at os (ref_of o))) (is_at-symmetric o u ∙ in-all (Differ u) os o pairs.0 i) ∙ found_itself os o pairs.1 i
