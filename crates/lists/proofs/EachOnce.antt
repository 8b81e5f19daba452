-- One more item of a list without repetition.
use Rattle.std.proofs.Common.{◌≡◌, ◌∙◌, ℕ, ◌+◌, ◌<◌, Bool, true, false, cond, not, ◌||◌, nat_le, List, [], ◌∷◌, ◌++◌, length, get_or, take, filter, count_by, refl, sym, ap, arith, if◌then◌else◌}
use Rattle.std.specs.Cmp.{IsEquivalence}
use Rattle.std.specs.List.{list_any}
use Rattle.std.proofs.lemmas.List.Sums.{sum_by-cons}
use Rattle.std.proofs.lemmas.List.Elements.{filter-append}
use Rattle.std.proofs.lemmas.List.Folds.{list_any-append}
use Rattle.std.proofs.lemmas.Map.Steps.{list_any_congr}
use Rattle.lists.specs.Once.{each_once}
use Rattle.lists.proofs.Items.{taken_more}

-- an item at the end of a list, where none is equal to it
abbrev with_item : {X : Type 0} → (X → X → Bool) → List X → X → List X
with_item eq ks x = if list_any (eq x) ks then ks else ks ++ x ∷ []

pub with_item-new : {X : Type 0} (eq : X → X → Bool) (ks : List X) (x : X) → list_any (eq x) ks ≡ false → with_item eq ks x ≡ ks ++ x ∷ []
with_item-new eq ks x new = rw new refl

pub with_item-seen : {X : Type 0} (eq : X → X → Bool) (ks : List X) (x : X) → list_any (eq x) ks ≡ true → with_item eq ks x ≡ ks
with_item-seen eq ks x old = rw old refl

-- at least one more than n
more-than : (n : ℕ) → nat_le 1 (1 + n) ≡ true
more-than n = grind arith

pub any-counted : {X : Type 0} (p : X → Bool) (xs : List X) → list_any p xs ≡ nat_le 1 (count_by p xs)
any-counted p [] = refl
any-counted p (x ∷ xs) = rw (sum_by-cons (λ y. cond (p y) 1 0) x xs, any-counted p xs) (by (p x) (count_by p xs))
  where
    by : (b : Bool) (n : ℕ) → (b || nat_le 1 n) ≡ nat_le 1 (cond b 1 0 + n)
    by true n = sym (more-than n)
    by false n = grind arith

module _ {X : Type 0} {eq : X → X → Bool} (equal : IsEquivalence eq) where
  -- what is equal to y is not equal to an x that is not
  apart : (x y z : X) → eq x y ≡ false → eq y z ≡ true → eq x z ≡ false
  apart x y z other same = equal.symm x z ∙ (sym (equal.congr y z x same) ∙ (equal.symm y x ∙ other))

  any-filter : (x y : X) (ks : List X) → eq x y ≡ false → list_any (eq x) (filter (λ z. not (eq y z)) ks) ≡ list_any (eq x) ks
  any-filter x y [] other = refl
  any-filter x y (k ∷ ks) other = by (eq y k) refl (any-filter x y ks other)
    where
      by : (b : Bool) → eq y k ≡ b → list_any (eq x) (filter (λ z. not (eq y z)) ks) ≡ list_any (eq x) ks
          → list_any (eq x) (cond (not b) (k ∷ filter (λ z. not (eq y z)) ks) (filter (λ z. not (eq y z)) ks)) ≡ (eq x k || list_any (eq x) ks)
      by true same rest = rw (apart x y k other same) rest
      by false differ rest = ap (λ b. eq x k || b) rest

  pub any-each_once : (x : X) (xs : List X) → list_any (eq x) (each_once eq xs) ≡ list_any (eq x) xs
  any-each_once x [] = refl
  any-each_once x (y ∷ ys) = by (eq x y) refl (any-each_once x ys)
    where
      by : (b : Bool) → eq x y ≡ b → list_any (eq x) (each_once eq ys) ≡ list_any (eq x) ys
          → (b || list_any (eq x) (filter (λ z. not (eq y z)) (each_once eq ys))) ≡ (b || list_any (eq x) ys)
      by true same rest = refl
      by false differ rest = any-filter x y (each_once eq ys) differ ∙ rest

  -- x at the end, where y is left out
  filter-insert : (x y : X) (ks : List X) (b c : Bool) → list_any (eq x) ks ≡ c → eq x y ≡ b
      → filter (λ z. not (eq y z)) (if c then ks else ks ++ x ∷ []) ≡ cond b (filter (λ z. not (eq y z)) ks) (if c then filter (λ z. not (eq y z)) ks else filter (λ z. not (eq y z)) ks ++ x ∷ [])
  filter-insert x y ks true true in_it same = refl
  filter-insert x y ks false true in_it same = refl
  filter-insert x y ks true false out same = filter-append (λ z. not (eq y z)) ks (x ∷ []) ∙ rw (equal.symm y x, same) (append-empty (filter (λ z. not (eq y z)) ks))
    where
      append-empty : (zs : List X) → zs ++ [] ≡ zs
      append-empty [] = refl
      append-empty (z ∷ zs) = ap (λ ws. z ∷ ws) (append-empty zs)
  filter-insert x y ks false false out differ = filter-append (λ z. not (eq y z)) ks (x ∷ []) ∙ rw (equal.symm y x, differ) refl

  pub each_once-push : (xs : List X) (x : X) → each_once eq (xs ++ x ∷ []) ≡ with_item eq (each_once eq xs) x
  each_once-push [] x = refl
  each_once-push (y ∷ ys) x =
      let ks = each_once eq ys in
      let kept = filter (λ z. not (eq y z)) ks in
      ap (λ zs. y ∷ filter (λ z. not (eq y z)) zs) (each_once-push ys x) ∙ (ap (λ zs. y ∷ zs) (filter-insert x y ks (eq x y) (list_any (eq x) ks) refl refl) ∙ by (eq x y) (list_any (eq x) ks) refl refl)
    where
      by : (b c : Bool) → eq x y ≡ b → list_any (eq x) (each_once eq ys) ≡ c
          → y ∷ cond b (filter (λ z. not (eq y z)) (each_once eq ys)) (if c then filter (λ z. not (eq y z)) (each_once eq ys) else filter (λ z. not (eq y z)) (each_once eq ys) ++ x ∷ [])
          ≡ (if b || list_any (eq x) (filter (λ z. not (eq y z)) (each_once eq ys)) then y ∷ filter (λ z. not (eq y z)) (each_once eq ys) else y ∷ (filter (λ z. not (eq y z)) (each_once eq ys) ++ x ∷ []))
      by true c same is = refl
      by false true differ is = rw (any-filter x y (each_once eq ys) differ, is) refl
      by false false differ is = rw (any-filter x y (each_once eq ys) differ, is) refl

  pub once_step : (xs : List X) (i : ℕ) (x : X) (ks more : List X) → i < length xs → x ≡ get_or xs i x → more ≡ with_item eq ks x → ks ≡ each_once eq (take i xs) → more ≡ each_once eq (take (i + 1) xs)
  once_step xs i x ks more h is e inv =
      let taken = taken_more xs i x h is in
      e ∙ (ap (λ zs. with_item eq zs x) inv ∙ (sym (each_once-push (take i xs) x) ∙ ap (each_once eq) (sym taken)))

  -- ---- one more item is seen: q is it, or was seen before

  pub seen_more : (q x : X) (is_it was : Bool) (ks : List X) → is_it ≡ eq x q → was ≡ list_any (eq q) ks → cond is_it true was ≡ list_any (eq q) (ks ++ x ∷ [])
  seen_more q x is_it was ks it before = rw (it ∙ equal.symm x q, before) (by (eq q x) (list_any (eq q) ks)) ∙ sym (list_any-append (eq q) ks (x ∷ []))
    where
      by : (b c : Bool) → cond b true c ≡ (c || (b || false))
      by true true = refl
      by true false = refl
      by false true = refl
      by false false = refl

  pub seen_again : (q x : X) (is_it was : Bool) (ks : List X) → list_any (eq x) ks ≡ true → is_it ≡ eq x q → was ≡ list_any (eq q) ks → cond is_it true was ≡ list_any (eq q) ks
  seen_again q x is_it was ks there it before = by is_it it
    where
      by : (b : Bool) → b ≡ eq x q → cond b true was ≡ list_any (eq q) ks
      by true same = sym (list_any_congr equal q x ks (equal.symm q x ∙ sym same) ∙ there)
      by false differ = before
