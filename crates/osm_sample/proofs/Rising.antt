-- Objects by rising kinds and ids: no two have one kind and id.
use Rattle.std.proofs.Common.{◌≡◌, ◌∙◌, refl, sym, ap, subst, ℕ, zero, suc, ◌+◌, ◌<◌, ◌≤◌, arith, Bool, true, false, cond, ℤ, None, Some, List, [], ◌∷◌, ◌++◌, map, All}
use Rattle.std.specs.Prelude.{unsigned_abs}
use Rattle.std.specs.List.{flat_map}
use Rattle.std.specs.Ordering.{int_eq}
use Rattle.std.proofs.lemmas.List.Elements.{All-cons, All-head, All-nil, All-tail}
use Rattle.std.proofs.lemmas.Bool.{and_parts}
use Rattle.osm_elements.specs.declared.object.Object.{Object}
use Rattle.osm_elements.specs.declared.object.ObjectKind.{ObjectKind}
use Rattle.osm_elements.specs.declared.object.ObjectKind.TheVariants.{Node, Way, Relation}
use Rattle.osm_objects.specs.Object.{id_of, is_at, kind_of, ref_of, same_kind}
use Rattle.osm_objects.specs.Objects.{AreApart, object_at}
use Rattle.osm_objects.proofs.ObjectsKit.{same_kind-same}
use Rattle.lists.proofs.ListsKit.{int_eq-true}
use Rattle.osm_sample.specs.Numbers.{numbers}
use Rattle.osm_sample.proofs.Counted.{flat_map-suc, map-suc}

-- ---- ranks

abbrev pub rank_of : ObjectKind → ℕ → ℕ
rank_of Node id = id
rank_of Way id = 1_000_000 + id
rank_of Relation id = 2_000_000 + id

-- nodes before ways before relations, each by id
abbrev pub rank : Object → ℕ
rank o = rank_of (kind_of o) (unsigned_abs (id_of o))

one_rank : (o u : Object) → is_at (ref_of o) u ≡ true → rank o ≡ rank u
one_rank o u e =
    let parts = and_parts (same_kind (kind_of o) (kind_of u)) (int_eq (id_of o) (id_of u)) e in
    ap (λ (k : ObjectKind). rank_of k (unsigned_abs (id_of o))) (same_kind-same (kind_of o) (kind_of u) parts.0)
    ∙ ap (λ (z : ℤ). rank_of (kind_of u) (unsigned_abs z)) (int_eq-true (id_of o) (id_of u) parts.1)

apart : (o u : Object) → rank o < rank u → is_at (ref_of o) u ≡ false
apart o u less = by (is_at (ref_of o) u) refl
  where
    by : (b : Bool) → is_at (ref_of o) u ≡ b → b ≡ false
    by true e = let same = one_rank o u e in absurd (omega arith)
    by false e = refl

-- none of higher rank is found in its place
none_above : (o : Object) (us : List Object) → All (λ u. rank o + 1 ≤ rank u) us → object_at us (ref_of o) ≡ None
none_above o [] all = refl
none_above o (u ∷ us) all =
    ap (λ (b : Bool). cond b (Some u) (object_at us (ref_of o))) (apart o u (let more = All-head (λ v. rank o + 1 ≤ rank v) u us all in omega arith))
    ∙ none_above o us (All-tail (λ v. rank o + 1 ≤ rank v) u us all)

-- ---- rising lists

-- their ranks rise, from low on and below high
abbrev pub RisesIn : ℕ → ℕ → List Object → Type 0
RisesIn low high [] = low ≤ high
RisesIn low high (o ∷ os) = (low ≤ rank o) × RisesIn (rank o + 1) high os

pub rises_from : (less low high : ℕ) (os : List Object) → less ≤ low → RisesIn low high os → RisesIn less high os
rises_from less low high [] l rises = omega arith
rises_from less low high (o ∷ os) l rises = (let first = rises.0 in omega arith, rises.1)

pub rises_both : (low middle high : ℕ) (os us : List Object) → RisesIn low middle os → RisesIn middle high us → RisesIn low high (os ++ us)
rises_both low middle high [] us first second = rises_from low middle high us first second
rises_both low middle high (o ∷ os) us first second = (first.0, rises_both (rank o + 1) middle high os us first.1 second)

pub rises-of_flat_map : (f : ℕ → List Object) (g : ℕ → ℕ) (n : ℕ) → ((i : ℕ) → i < n → RisesIn (g i) (g (suc i)) (f i)) → RisesIn (g 0) (g n) (flat_map f (numbers n))
rises-of_flat_map f g zero each = omega arith
rises-of_flat_map f g (suc n) each =
    subst (RisesIn (g 0) (g (suc n))) (sym (flat_map-suc f n))
    (rises_both (g 0) (g n) (g (suc n)) (flat_map f (numbers n)) (f n) (rises-of_flat_map f g n (λ i low. each i (omega arith))) (each n (omega arith)))

pub rises-of_map : (f : ℕ → Object) (g : ℕ → ℕ) (n : ℕ) → ((i : ℕ) → i < n → RisesIn (g i) (g (suc i)) (f i ∷ [])) → RisesIn (g 0) (g n) (map f (numbers n))
rises-of_map f g zero each = omega arith
rises-of_map f g (suc n) each =
    subst (RisesIn (g 0) (g (suc n))) (sym (map-suc f n))
    (rises_both (g 0) (g n) (g (suc n)) (map f (numbers n)) (f n ∷ []) (rises-of_map f g n (λ i low. each i (omega arith))) (each n (omega arith)))

all_from : (low high : ℕ) (os : List Object) → RisesIn low high os → All (λ o. low ≤ rank o) os
all_from low high [] rises = All-nil (λ o. low ≤ rank o)
all_from low high (o ∷ os) rises =
    let more = all_from low high os (rises_from low (rank o + 1) high os (let first = rises.0 in omega arith) rises.1) in
    All-cons (λ u. low ≤ rank u) o os rises.0 more

-- so no two have one kind and id
pub rises_apart : (low high : ℕ) (os : List Object) → RisesIn low high os → AreApart os
rises_apart low high [] rises = tt
rises_apart low high (o ∷ os) rises = (none_above o os (all_from (rank o + 1) high os rises.1), rises_apart (rank o + 1) high os rises.1)
