-- What is found, and what is made, of the items that a test keeps.
use Rattle.std.proofs.Common.{◌≡◌, ◌∙◌, refl, sym, ap, subst, cond, Bool, true, false, Option, None, Some, ℤ, inl, inr, List, [], ◌∷◌, ◌++◌, filter}
use Rattle.std.specs.Prelude.{find}
use Rattle.std.specs.List.{filter_map, flat_map, list_any}
use Rattle.std.specs.Option.{option_or}
use Rattle.std.specs.Ordering.{int_eq}
use Rattle.std.proofs.Math.Bool.{or-true}
use Rattle.std.proofs.lemmas.Cmp.{int_eq_equiv}
use Rattle.std.proofs.lemmas.List.Folds.{find-append}
use Rattle.lists.specs.Member.{In}
use Rattle.lists.proofs.ListsKit.{in-left, in-right}

-- ---- two tests, one after the other

pub none_pass : {X : Type 0} (p q : X → Bool) → ((x : X) → q x ≡ true → p x ≡ false) → (xs : List X) → filter p (filter q xs) ≡ []
none_pass p q part [] = refl
none_pass p q part (x ∷ xs) = by (q x) refl (none_pass p q part xs)
  where
    by : (b : Bool) → q x ≡ b → filter p (filter q xs) ≡ [] → filter p (cond b (x ∷ filter q xs) (filter q xs)) ≡ []
    by true e rest = rw (part x e) rest
    by false e rest = rest

pub all_pass : {X : Type 0} (p : X → Bool) (xs : List X) → filter p (filter p xs) ≡ filter p xs
all_pass {X} p [] = refl
all_pass {X} p (x ∷ xs) = by (p x) refl (all_pass p xs)
  where
    by : (b : Bool) → p x ≡ b → filter p (filter p xs) ≡ filter p xs → filter p (cond b (x ∷ filter p xs) (filter p xs)) ≡ cond b (x ∷ filter p xs) (filter p xs)
    by true e rest = rw e (ap (λ (ys : List X). x ∷ ys) rest)
    by false e rest = rest

-- ---- what is found

found_kept : {X : Type 0} (p q : X → Bool) → ((x : X) → p x ≡ true → q x ≡ true) → (xs : List X) → find p (filter q xs) ≡ find p xs
found_kept p q keeps [] = refl
found_kept p q keeps (x ∷ xs) = by (q x) (p x) refl refl (found_kept p q keeps xs)
  where
    by : (b c : Bool) → q x ≡ b → p x ≡ c → find p (filter q xs) ≡ find p xs → find p (cond b (x ∷ filter q xs) (filter q xs)) ≡ cond c (Some x) (find p xs)
    by true true d e rest = rw e refl
    by true false d e rest = rw e rest
    by false true d e rest = absurd (cc (sym d ∙ keeps x e))
    by false false d e rest = rest

none_found : {X : Type 0} (p q : X → Bool) → ((x : X) → q x ≡ true → p x ≡ false) → (xs : List X) → find p (filter q xs) ≡ None
none_found p q part [] = refl
none_found p q part (x ∷ xs) = by (q x) refl (none_found p q part xs)
  where
    by : (b : Bool) → q x ≡ b → find p (filter q xs) ≡ None → find p (cond b (x ∷ filter q xs) (filter q xs)) ≡ None
    by true e rest = rw (part x e) rest
    by false e rest = rest

alone : {X : Type 0} (o found : Option X) → o ≡ found → option_or o None ≡ found
alone None found is = is
alone (Some x) found is = is

-- what is found among the items that a test keeps, and behind them those that another keeps, is what is found among all
pub found_among : {X : Type 0} (p q r : X → Bool) → ((x : X) → p x ≡ true → q x ≡ true) → ((x : X) → r x ≡ true → p x ≡ false) → (xs : List X) → find p (filter q xs ++ filter r xs) ≡ find p xs
found_among p q r keeps part xs =
    find-append p (filter q xs) (filter r xs) ∙ ap (option_or (find p (filter q xs))) (none_found p r part xs) ∙ alone (find p (filter q xs)) (find p xs) (found_kept p q keeps xs)

-- ---- functions that agree at each item of a list

pub filter-alike : {X : Type 0} (p q : X → Bool) (xs : List X) → ((x : X) → In x xs → p x ≡ q x) → filter p xs ≡ filter q xs
filter-alike p q [] same = refl
filter-alike p q (x ∷ xs) same = rw (same x (inl refl), filter-alike p q xs (λ y i. same y (inr i))) refl

pub filter_map-alike : {X Y : Type 0} (f g : X → Option Y) (xs : List X) → ((x : X) → In x xs → f x ≡ g x) → filter_map f xs ≡ filter_map g xs
filter_map-alike f g [] same = refl
filter_map-alike f g (x ∷ xs) same = rw (same x (inl refl), filter_map-alike f g xs (λ y i. same y (inr i))) refl

pub flat_map-alike : {X Y : Type 0} (f g : X → List Y) (xs : List X) → ((x : X) → In x xs → f x ≡ g x) → flat_map f xs ≡ flat_map g xs
flat_map-alike f g [] same = refl
flat_map-alike f g (x ∷ xs) same = rw (same x (inl refl), flat_map-alike f g xs (λ y i. same y (inr i))) refl

-- ---- members

pub any-in : (y : ℤ) (ys : List ℤ) → In y ys → list_any (int_eq y) ys ≡ true
any-in y [] i = absurd i
any-in y (x ∷ xs) (inl e) = rw (sym e, int_eq_equiv.refl y) refl
any-in y (x ∷ xs) (inr i) = rw (any-in y xs i) (or-true (int_eq y x))

pub in-flat_map : {X Y : Type 0} (f : X → List Y) (xs : List X) (x : X) (y : Y) → In x xs → In y (f x) → In y (flat_map f xs)
in-flat_map f [] x y i j = absurd i
in-flat_map f (u ∷ xs) x y (inl e) j = in-left (f u) (flat_map f xs) y (subst (λ v. In y (f v)) e j)
in-flat_map f (u ∷ xs) x y (inr i) j = in-right (f u) (flat_map f xs) y (in-flat_map f xs x y i j)
