-- The steps of marking.
use Rattle.std.proofs.Common.{◌≡◌, ◌≢◌, ◌⊎◌, inl, inr, ℕ, ◌+◌, ◌<◌, ◌≤◌, List, [], ◌∷◌, length, get_or, set, take, Bool, true, false, refl, sym, ap, ◌∙◌, arith, ⊎_elim, Option, Some, None}
use Rattle.std.proofs.lemmas.Bool.{cases_lt}
use Rattle.std.proofs.lemmas.List.{length-set, length-take-le, get_or-set_same, get_or-set_other}
use Rattle.orbits.specs.OrbitSteps.{AreMarkedAlso, AreStarts}
use Rattle.orbits.specs.Orbits.{after, IsOneToOne}
use Rattle.orbits.proofs.Reading.{at_take, unwrap}
use Rattle.orbits.proofs.Members.{find}
use Rattle.orbits.proofs.Walks.{has_place}

pub marked_none : (old : List Bool) → AreMarkedAlso old [] old
marked_none old = record { sized = refl; here = λ k h. absurd (omega arith); others = λ x absent. refl }

pub same_or_not : (x y : ℕ) → (x ≡ y) ⊎ (x ≢ y)
same_or_not x y = ⊎_elim (λ p. let z : p.0 ≡ 0 = omega arith in inl (sym p.2 ∙ ap (λ k. get_or (y ∷ []) k 0) z)) (λ absent. inr (λ e. absent 0 (omega arith) (sym e))) (find x (y ∷ []))

pub marked_more : (old new : List Bool) (places : List ℕ) (i place : ℕ) → i < length places → place ≡ get_or places i 0 → place < length old → AreMarkedAlso old (take i places) new → AreMarkedAlso old (take (i + 1) places) (set new place true)
marked_more old new places i place h is fits m =
    let a : length (take i places) ≡ i = length-take-le i places (omega arith) in
    let b : length (take (i + 1) places) ≡ i + 1 = length-take-le (i + 1) places (omega arith) in
    let long = length-set new place true in
    let sized = m.sized in
    record {
      sized = omega arith;
      here = λ k l.
          let read = at_take places (i + 1) k (omega arith) in
          rw read (⊎_elim
          (λ s. rw (← s) (get_or-set_same new place true false (omega arith)))
          (λ d. get_or-set_other new place (get_or places k 0) true false (λ e. d (sym e)) ∙
          ⊎_elim (λ u. let inside : k < length (take i places) = omega arith in ap (λ x. get_or new x false) (sym (at_take places i k u)) ∙ m.here k inside)
          (λ u. let e : k ≡ i = omega arith in absurd (d (is ∙ ap (λ n. get_or places n 0) (sym e))))
          (cases_lt k i))
          (same_or_not place (get_or places k 0)));
      others = λ x absent.
          let apart : x ≢ place = λ e. absent i (omega arith) (at_take places (i + 1) i (omega arith) ∙ (sym is ∙ sym e)) in
          get_or-set_other new place x true false apart ∙ m.others x (λ k l e. absent k (omega arith) (at_take places (i + 1) k (omega arith) ∙ (sym (at_take places i k (omega arith)) ∙ e)));
    }

-- the starts as far as the map was read
pub record AreStartsUpTo (next : List (Option ℕ)) (n : ℕ) (starts : List Bool) : Type 0 where
  pub sized : length starts ≡ length next
  pub none : (i j : ℕ) → i < n → after next i ≡ Some j → get_or starts j false ≡ false
  pub some : (j : ℕ) → j < length next → get_or starts j false ≡ false → (i : ℕ) × (after next i ≡ Some j)

module _ (next : List (Option ℕ)) (map : IsOneToOne next) where
  pub starts_more : (starts : List Bool) (n j : ℕ) → AreStartsUpTo next n starts → after next n ≡ Some j → AreStartsUpTo next (n + 1) (set starts j false)
  starts_more starts n j s e =
      let long = length-set starts j false in
      let sized = s.sized in
      let inside = map.within n j e in
      record {
        sized = omega arith;
        none = λ i k h f. ⊎_elim
            (λ same. rw (← same) (get_or-set_same starts j false false (omega arith)))
            (λ d. get_or-set_other starts j k false false (λ x. d (sym x)) ∙
            ⊎_elim (λ l. s.none i k l f) (λ l. let is : i ≡ n = omega arith in let g : after next n ≡ Some k = rw (← is) f in absurd (d (unwrap j k (sym e ∙ g)))) (cases_lt i n))
            (same_or_not j k);
        some = λ k h f. ⊎_elim
            (λ same. rw (← same) (n, e))
            (λ d. s.some k h (sym (get_or-set_other starts j k false false (λ x. d (sym x))) ∙ f))
            (same_or_not j k);
      }

  pub starts_pass : (starts : List Bool) (n : ℕ) → AreStartsUpTo next n starts → after next n ≡ None → AreStartsUpTo next (n + 1) starts
  starts_pass starts n s e = record {
    sized = s.sized;
    none = λ i k h f. ⊎_elim (λ l. s.none i k l f) (λ l. let is : i ≡ n = omega arith in let g : after next n ≡ Some k = rw (← is) f in absurd (cc)) (cases_lt i n);
    some = s.some;
  }

  pub starts_all : (starts : List Bool) (n : ℕ) → length next ≤ n → AreStartsUpTo next n starts → AreStarts next starts
  starts_all starts n h s = record { sized = s.sized; none = λ i j e. let l = has_place next map i j e in s.none i j (omega arith) e; some = s.some }
