-- What is left of a sorted list without the items that are equal to the one before: each item once.
use Rattle.std.proofs.Common.{◌≡◌, ◌∙◌, ℕ, ◌+◌, ◌≤◌, ◌||◌, nat_le, List, [], ◌∷◌, min, Bool, true, false, cond, refl, sym, ap, arith}
use Rattle.std.specs.declared.cmp.Ordering.{Ordering}
use Rattle.std.specs.Ordering.{is_eq, eq_by_cmp}
use Rattle.std.specs.Cmp.{IsTotalOrder}
use Rattle.std.specs.List.{dedup, dedup_from, list_any}
use Rattle.std.specs.List.Sorted.{IsSorted}
use Rattle.std.proofs.lemmas.Bool.Decides.{leb_tells}
use Rattle.std.proofs.lemmas.List.Kept.{IsStrictlySortedBy-dedup}
use Rattle.std.proofs.lemmas.Map.Keys.{Less-from_sorted}
use Rattle.lists.specs.Rising.{IsRising, count_of}
use Rattle.lists.proofs.Counts.{count-cons, count_below}
use Rattle.lists.proofs.EachOnce.{any-counted}
use Rattle.lists.proofs.Orderings.{equal_from}
use Rattle.lists.proofs.RisingLists.{rising-head, rising-tail}

module _ {X : Type 0} {R : X → X → Ordering} (o : IsTotalOrder R) where
  -- in a list in strict order no two items tie with one value, also where items that tie may differ
  ties_once : (xs : List X) → IsRising R xs → (z : X) → count_of R z xs ≤ 1
  ties_once [] up z = omega arith
  ties_once (y ∷ ys) up z = by (is_eq (R y z)) refl (ties_once ys (rising-tail R y ys up) z)
    where
      by : (b : Bool) → is_eq (R y z) ≡ b → count_of R z ys ≤ 1 → count_of R z (y ∷ ys) ≤ 1
      by true same later =
          let first : cond {A = ℕ} (is_eq (R y z)) 1 0 ≡ 1 = rw same refl in
          let none : count_of R z ys ≡ 0 = count_below o z ys (λ k d l. sym (o.congr y z _ (equal_from (R y z) same)) ∙ rising-head R y ys up k d l) in
          omega (arith, count-cons R z y ys)
      by false other later = let first : cond {A = ℕ} (is_eq (R y z)) 1 0 ≡ 0 = rw other refl in omega (arith, count-cons R z y ys)

  module _ {E : X → X → Bool} (ties : (x y : X) → E x y ≡ eq_by_cmp R x y) where
    any-dedup_from : (z k : X) (xs : List X) → list_any (λ y. is_eq (R y z)) (dedup_from E k xs) ≡ list_any (λ y. is_eq (R y z)) (k ∷ xs)
    any-dedup_from z k [] = refl
    any-dedup_from z k (x ∷ xs) = by (E x k) refl (any-dedup_from z k xs) (any-dedup_from z x xs)
      where
        both : (b c : Bool) → (b || c) ≡ (b || (b || c))
        both true c = refl
        both false c = refl

        by : (b : Bool) → E x k ≡ b → list_any (λ y. is_eq (R y z)) (dedup_from E k xs) ≡ (is_eq (R k z) || list_any (λ y. is_eq (R y z)) xs)
            → list_any (λ y. is_eq (R y z)) (dedup_from E x xs) ≡ (is_eq (R x z) || list_any (λ y. is_eq (R y z)) xs)
            → list_any (λ y. is_eq (R y z)) (cond b (dedup_from E k xs) (k ∷ dedup_from E x xs)) ≡ (is_eq (R k z) || (is_eq (R x z) || list_any (λ y. is_eq (R y z)) xs))
        by true same first later =
            first ∙ (both (is_eq (R k z)) (list_any (λ y. is_eq (R y z)) xs)
            ∙ ap (λ r. is_eq (R k z) || (is_eq r || list_any (λ y. is_eq (R y z)) xs)) (sym (o.congr x k z (equal_from (R x k) (sym (ties x k) ∙ same)))))
        by false other first later = ap (λ b. is_eq (R k z) || b) later

    any-dedup : (z : X) (xs : List X) → list_any (λ y. is_eq (R y z)) (dedup E xs) ≡ list_any (λ y. is_eq (R y z)) xs
    any-dedup z [] = refl
    any-dedup z (x ∷ xs) = any-dedup_from z x xs

    pub rising-dedup : (xs : List X) → IsSorted R xs → IsRising R (dedup E xs)
    rising-dedup xs sorted i j d l h = Less-from_sorted R (dedup E xs) i j d (IsStrictlySortedBy-dedup o ties xs sorted) l h

    pub count-dedup : (xs : List X) → IsSorted R xs → (z : X) → count_of R z (dedup E xs) ≡ min 1 (count_of R z xs)
    count-dedup xs sorted z =
        by (count_of R z (dedup E xs)) (count_of R z xs) (ties_once (dedup E xs) (rising-dedup xs sorted) z)
        (sym (any-counted (λ y. is_eq (R y z)) (dedup E xs)) ∙ (any-dedup z xs ∙ any-counted (λ y. is_eq (R y z)) xs))
      where
        by : (n m : ℕ) → n ≤ 1 → nat_le 1 n ≡ nat_le 1 m → n ≡ min 1 m
        by n m one same = grind (arith, leb_tells)
