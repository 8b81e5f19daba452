-- What is found among objects of different references.
use Rattle.std.proofs.Common.{◌≡◌, ◌∙◌, Bool, true, false, cond, ◌&&◌, List, [], ◌∷◌, refl, sym, ap, ℤ, Option, None, Some, option_map, filter, map, IsTrue, IsSome, int_eq}
use Rattle.std.specs.List.{AllByRecursion}
use Rattle.std.proofs.lemmas.Bool.{and_parts}
use Rattle.std.proofs.lemmas.Bool.Decides.{Decides-int_eq}
use Rattle.std.proofs.lemmas.Cmp.{int_eq_equiv}
use Rattle.osm_elements.specs.declared.object.ObjectKind.{ObjectKind}
use Rattle.osm_elements.specs.declared.object.ObjectKind.TheVariants.{Node, Way, Relation}
use Rattle.osm_elements.specs.declared.object.ObjectRef.{ObjectRef}
use Rattle.osm_elements.specs.declared.object.Object.{Object}
use Rattle.osm_objects.specs.declared.held.Held.{Held}
use Rattle.osm_objects.specs.declared.held.Placed.{Placed}
use Rattle.osm_objects.specs.declared.held.Held.TheVariants as held
use Rattle.osm_objects.specs.Object.{kind_of, id_of, is_live, ref_of, same_kind, is_at}
use Rattle.osm_objects.specs.Objects.{object_at, AreApart}
use Rattle.osm_objects.specs.Held.{object_from}
use Rattle.osm_objects.proofs.StoreLemmas.{objects_from}

-- ---- the test of a kind and id

same_kind-itself : (a : ObjectKind) → same_kind a a ≡ true
same_kind-itself Node = refl
same_kind-itself Way = refl
same_kind-itself Relation = refl

same_kind-symmetric : (a b : ObjectKind) → same_kind a b ≡ same_kind b a
same_kind-symmetric Node Node = refl
same_kind-symmetric Node Way = refl
same_kind-symmetric Node Relation = refl
same_kind-symmetric Way Node = refl
same_kind-symmetric Way Way = refl
same_kind-symmetric Way Relation = refl
same_kind-symmetric Relation Node = refl
same_kind-symmetric Relation Way = refl
same_kind-symmetric Relation Relation = refl

pub same_kind-same : (a b : ObjectKind) → same_kind a b ≡ true → a ≡ b
same_kind-same Node Node same = refl
same_kind-same Way Way same = refl
same_kind-same Relation Relation same = refl
same_kind-same Node Way same = absurd (cc)
same_kind-same Node Relation same = absurd (cc)
same_kind-same Way Node same = absurd (cc)
same_kind-same Way Relation same = absurd (cc)
same_kind-same Relation Node same = absurd (cc)
same_kind-same Relation Way same = absurd (cc)

pub is_at-itself : (o : Object) → is_at (ref_of o) o ≡ true
is_at-itself o = rw (same_kind-itself (kind_of o), int_eq_equiv.refl (id_of o)) refl

-- a reference at which an object is, is its own
pub same_ref : (of : ObjectRef) (o : Object) → is_at of o ≡ true → of ≡ ref_of o
same_ref of o is =
    let parts = and_parts (same_kind of.kind (kind_of o)) (int_eq of.id (id_of o)) is in
    let same : of.id ≡ id_of o = (Decides-int_eq of.id (id_of o)).0 parts.1 in
    ap (λ (k : ObjectKind). record { kind = k; id = of.id }) (same_kind-same of.kind (kind_of o) parts.0) ∙ ap (λ (i : ℤ). record { kind = kind_of o; id = i }) same

pub same_either_way : (a b : ObjectRef) → (same_kind a.kind b.kind && int_eq a.id b.id) ≡ (same_kind b.kind a.kind && int_eq b.id a.id)
same_either_way a b = rw (same_kind-symmetric a.kind b.kind, int_eq_equiv.symm a.id b.id) refl

pub is_at-symmetric : (o u : Object) → is_at (ref_of o) u ≡ is_at (ref_of u) o
is_at-symmetric o u = same_either_way (ref_of o) (ref_of u)

-- what is not found first is not found later
pub passes : {A : Type 0} (b : Bool) (o : A) (rest : Option A) → cond b (Some o) rest ≡ None → (b ≡ false) × (rest ≡ None)
passes true o rest none = absurd (cc)
passes false o rest none = (refl, none)

-- ---- each object is found

-- each of these is what its reference finds among the objects
abbrev pub AllFound : List Object → List Object → Type 0
AllFound objects list = AllByRecursion (λ o. object_at objects (ref_of o) ≡ Some o) list

-- an object of another reference in front changes nothing
found-behind : (o : Object) (list objects : List Object) → object_at list (ref_of o) ≡ None → AllFound objects list → AllFound (o ∷ objects) list
found-behind o [] objects none all = tt
found-behind o (u ∷ list) objects none all =
    let p = passes (is_at (ref_of o) u) u (object_at list (ref_of o)) none in (
      rw (sym (is_at-symmetric o u) ∙ p.0) (all.0),
      found-behind o list objects p.1 all.1,
    )

pub all_found : (objects : List Object) → AreApart objects → AllFound objects objects
all_found [] apart = tt
all_found (o ∷ objects) apart = (
  rw (is_at-itself o) refl,
  found-behind o objects objects apart.0 (all_found objects apart.1),
)

-- a reference to one that passes a test finds one that passes it
pub filter-found : (p : Object → Bool) (objects list : List Object) → AllFound objects list → AllByRecursion (λ of. option_map p (object_at objects of) ≡ Some true) (map ref_of (filter p list))
filter-found p objects [] all = tt
filter-found p objects (o ∷ list) all = by (p o) refl (filter-found p objects list all.1)
  where
    by : (b : Bool) → p o ≡ b → AllByRecursion (λ of. option_map p (object_at objects of) ≡ Some true) (map ref_of (filter p list))
        → AllByRecursion (λ of. option_map p (object_at objects of) ≡ Some true) (map ref_of (cond b (o ∷ filter p list) (filter p list)))
    by true passed rest = (ap (option_map p) all.0 ∙ ap Some passed, rest)
    by false failed rest = rest

-- a reference at which something is true finds an object
some-from : {A B : Type 0} (f : A → B) (o : Option A) (y : B) → option_map f o ≡ Some y → IsSome o
some-from f None y none = absurd (cc)
some-from f (Some x) y some = refl

pub filter-held : (p : Object → Bool) (objects : List Object) → AreApart objects → AllByRecursion (λ of. IsSome (object_at objects of)) (map ref_of (filter p objects))
filter-held p objects apart = weaker (map ref_of (filter p objects)) (filter-found p objects objects (all_found objects apart))
  where
    weaker : (list : List ObjectRef) → AllByRecursion (λ of. option_map p (object_at objects of) ≡ Some true) list → AllByRecursion (λ of. IsSome (object_at objects of)) list
    weaker [] all = tt
    weaker (of ∷ list) all = (some-from p (object_at objects of) true all.0, weaker list all.1)

-- ---- what is held is live

live-from : (id : ℤ) (h : Held) → IsTrue (is_live (object_from id h))
live-from id (held.Plain place) = refl
live-from id (held.Tagged n) = refl
live-from id (held.Way w) = refl
live-from id (held.Relation r) = refl

pub all_live : (others : List Placed) → AllByRecursion (λ o. IsTrue (is_live o)) (objects_from others)
all_live [] = tt
all_live (p ∷ others) = (live-from p.id p.held, all_live others)
