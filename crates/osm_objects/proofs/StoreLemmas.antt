-- A look-up among the others is a look-up in the list of their objects.
use Rattle.std.proofs.Common.{◌≡◌, Bool, true, false, cond, ◌&&◌, List, [], ◌∷◌, ◌++◌, refl, ap, map, ℤ, None, Some, option_map, int_eq, if◌then◌else◌}
use Rattle.std.specs.List.{find}
use Rattle.osm_elements.specs.declared.object.ObjectKind.{ObjectKind}
use Rattle.osm_elements.specs.declared.object.ObjectKind.TheVariants.{Node, Way, Relation}
use Rattle.osm_elements.specs.declared.object.ObjectRef.{ObjectRef}
use Rattle.osm_elements.specs.declared.object.Object.{Object}
use Rattle.osm_elements.specs.contracts.object.ObjectRefPartialEq.TheImpl as ref_eq
use Rattle.osm_elements.specs.contracts.object.ObjectKindPartialEq.TheImpl as kind_eq
use Rattle.osm_objects.specs.declared.held.Held.{Held}
use Rattle.osm_objects.specs.declared.held.Placed.{Placed}
use Rattle.osm_objects.specs.declared.held.Held.TheVariants as held
use Rattle.osm_objects.specs.Object.{id_of, is_live, ref_of, same_kind}
use Rattle.osm_objects.specs.Objects.{object_at, with_object}
use Rattle.osm_objects.specs.Held.{object_from, live_ref}
use Rattle.osm_objects.specs.Others.{object_held, is_held_at}

-- the objects
abbrev pub objects_from : List Placed → List Object
objects_from others = map object_held others

abbrev pub eq : ObjectRef → ObjectRef → Bool
eq = ref_eq.ghosts.eq

kinds : (a b : ObjectKind) → kind_eq.ghosts.eq a b ≡ same_kind a b
kinds Node Node = refl
kinds Node Way = refl
kinds Node Relation = refl
kinds Way Node = refl
kinds Way Way = refl
kinds Way Relation = refl
kinds Relation Node = refl
kinds Relation Way = refl
kinds Relation Relation = refl

pub eq-is : (a b : ObjectRef) → eq a b ≡ (same_kind a.kind b.kind && int_eq a.id b.id)
eq-is a b = ap (λ k. k && int_eq a.id b.id) (kinds a.kind b.kind)

pub id-from : (id : ℤ) (h : Held) → id_of (object_from id h) ≡ id
id-from id (held.Plain place) = refl
id-from id (held.Tagged n) = refl
id-from id (held.Way w) = refl
id-from id (held.Relation r) = refl

pub object_at-from : (of : ObjectRef) (others : List Placed) → object_at (objects_from others) of ≡ option_map object_held (find (is_held_at of) others)
object_at-from of [] = refl
object_at-from of (p ∷ others) = by (is_held_at of p) (object_at-from of others)
  where
    by : (b : Bool) → object_at (objects_from others) of ≡ option_map object_held (find (is_held_at of) others)
        → cond b (Some (object_held p)) (object_at (objects_from others) of) ≡ option_map object_held (cond b (Some p) (find (is_held_at of) others))
    by true rest = refl
    by false rest = rest

-- ---- what `add` finds and leaves

-- an object that is added is live, and stands at its reference
pub record At (o : Object) (of : ObjectRef) : Type 0 where
  pub live : is_live o ≡ true
  pub is : ref_of o ≡ of

pub at-live_ref : (o : Object) (of : ObjectRef) → live_ref o ≡ Some of → At o of
at-live_ref o of found = by (is_live o) refl found
  where
    by : (b : Bool) → is_live o ≡ b → (if b then Some (ref_of o) else None) ≡ Some of → At o of
    by true live some = record { live = live; is = cc }
    by false live none = absurd (cc)

pub with_object-live : (objects : List Object) (o : Object) → is_live o ≡ true → with_object objects o ≡ objects ++ o ∷ []
with_object-live objects o live = rw live refl
