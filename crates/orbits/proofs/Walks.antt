-- Lists of numbers each of which goes on to the next.
use Rattle.std.proofs.Common.{◌≡◌, ◌≢◌, ℕ, zero, suc, ◌+◌, ◌-◌, ◌<◌, ◌≤◌, List, [], ◌∷◌, ◌++◌, length, get_or, refl, sym, ap, ◌∙◌, arith, ⊎_elim, Option, Some, None}
use Rattle.std.proofs.lemmas.Bool.{cases_lt}
use Rattle.std.proofs.lemmas.List.{get_or_past}
use Rattle.orbits.specs.Orbits.{after, IsOneToOne, GoesOn, first, last_number}
use Rattle.orbits.specs.OrbitSteps.{IsWholeWalk}
use Rattle.orbits.proofs.Reading.{at_old, at_new, length_push}
use Rattle.orbits.proofs.Members.{Distinct, distinct_below}

pub record IsWalk (next : List (Option ℕ)) (o : List ℕ) : Type 0 where
  pub some : 0 < length o
  pub within : (k : ℕ) → k < length o → get_or o k 0 < length next
  pub steps : GoesOn next o
  pub distinct : Distinct o

module _ (next : List (Option ℕ)) (map : IsOneToOne next) where
  pub has_place : (i j : ℕ) → after next i ≡ Some j → i < length next
  has_place i j e = ⊎_elim (λ h. h) (λ h. let n : after next i ≡ None = get_or_past next i None h in absurd (cc)) (cases_lt i (length next))

  pub walk_start : (i : ℕ) → i < length next → IsWalk next (i ∷ [])
  walk_start i h = record {
    some = omega arith;
    within = λ k l. let z : k ≡ 0 = omega arith in rw z h;
    steps = λ k l. absurd (omega arith);
    distinct = λ j k l m. absurd (omega arith);
  }

  -- what the last number goes on to is new, unless it is the first
  pub walk_on : (o : List ℕ) (j : ℕ) → IsWalk next o → after next (last_number o) ≡ Some j → j ≢ first o → IsWalk next (o ++ j ∷ [])
  walk_on o j w e new =
      let long = length_push o j in
      let n = length o in
      record {
        some = omega arith;
        within = λ k h. ⊎_elim (λ m. rw (at_old o j k m) (w.within k m)) (λ m. rw (at_new o j k (omega arith)) (map.within (last_number o) j e)) (cases_lt k n);
        steps = λ k h. rw (at_old o j k (omega arith)) (⊎_elim (λ m. rw (at_old o j (k + 1) m) (w.steps k m)) (λ m. let is : k ≡ n - 1 = omega arith in rw (at_new o j (k + 1) (omega arith), is) e) (cases_lt (k + 1) n));
        distinct = λ i k h m. rw (at_old o j i (omega arith)) (⊎_elim (λ l. rw (at_old o j k l) (w.distinct i k h l)) (λ l. rw (at_new o j k (omega arith)) (apart i (omega arith))) (cases_lt k n));
      }
    where
      apart : (i : ℕ) → i < length o → get_or o i 0 ≢ j
      apart zero h s = new (sym s)
      apart (suc i) h s =
          let here : after next (get_or o i 0) ≡ Some j = w.steps i (omega arith) ∙ ap Some (ap (λ k. get_or o k 0) (omega arith) ∙ s) in
          w.distinct i (length o - 1) (omega arith) (omega arith) (map.one (get_or o i 0) (last_number o) j here e)

  -- what goes on to the first number is new, where the last does not go on
  pub walk_back : (o : List ℕ) (p : ℕ) → IsWalk next o → after next (last_number o) ≡ None → after next p ≡ Some (first o) → IsWalk next (p ∷ o)
  walk_back o p w stop e = record {
    some = omega arith;
    within = λ k h. within k h;
    steps = λ k h. steps k h;
    distinct = λ i k h m. distinct i k h m;
  }
    where
      within : (k : ℕ) → k < length (p ∷ o) → get_or (p ∷ o) k 0 < length next
      within zero h = has_place p (first o) e
      within (suc k) h = w.within k (omega arith)

      steps : (k : ℕ) → k + 1 < length (p ∷ o) → after next (get_or (p ∷ o) k 0) ≡ Some (get_or (p ∷ o) (k + 1) 0)
      steps zero h = e
      steps (suc k) h = let same : suc (k + 1) ≡ suc k + 1 = omega arith in w.steps k (omega arith) ∙ ap Some (ap (λ m. get_or (p ∷ o) m 0) same)

      apart : (m : ℕ) → m < length o → p ≢ get_or o m 0
      apart m h s = ⊎_elim
          (λ l. let on : after next p ≡ Some (get_or o (m + 1) 0) = ap (after next) s ∙ w.steps m l in
          let same : first o ≡ get_or o (m + 1) 0 = cc in
          w.distinct 0 (m + 1) (omega arith) l same)
          (λ l. let is : m ≡ length o - 1 = omega arith in
          let none : after next p ≡ None = ap (after next) (s ∙ ap (λ k. get_or o k 0) is) ∙ stop in
          cc)
          (cases_lt (m + 1) (length o))

      distinct : (i k : ℕ) → i < k → k < length (p ∷ o) → get_or (p ∷ o) i 0 ≢ get_or (p ∷ o) k 0
      distinct i zero h m = absurd (omega arith)
      distinct zero (suc k) h m = apart k (omega arith)
      distinct (suc i) (suc k) h m = w.distinct i k (omega arith) (omega arith)

  pub walk_short : (o : List ℕ) → IsWalk next o → length o ≤ length next
  walk_short o w = distinct_below o (length next) w.distinct w.within

-- a walk from one number to another
pub record IsWalkTo (next : List (Option ℕ)) (from place : ℕ) (o : List ℕ) : Type 0 where
  pub walk : IsWalk next o
  pub begins : first o ≡ from
  pub ends : last_number o ≡ place

module _ (next : List (Option ℕ)) (map : IsOneToOne next) (from : ℕ) where
  pub walk_to_start : from < length next → IsWalkTo next from from (from ∷ [])
  walk_to_start h = record { walk = walk_start next map from h; begins = refl; ends = refl }

  pub walk_to_more : (place j : ℕ) (o : List ℕ) → IsWalkTo next from place o → after next place ≡ Some j → j ≢ from → IsWalkTo next from j (o ++ j ∷ [])
  walk_to_more place j o w e new =
      let long = length_push o j in
      let some = w.walk.some in
      record {
        walk = walk_on next map o j w.walk (rw w.ends e) (λ s. new (s ∙ w.begins));
        begins = at_old o j 0 some ∙ w.begins;
        ends = at_new o j (length (o ++ j ∷ []) - 1) (omega arith);
      }

  pub walk_whole : (place : ℕ) (o : List ℕ) → IsWalkTo next from place o → ((j : ℕ) → after next place ≡ Some j → j ≡ from) → IsWholeWalk next from o
  walk_whole place o w stops = record {
    some = w.walk.some;
    begins = w.begins;
    within = w.walk.within;
    steps = w.walk.steps;
    distinct = w.walk.distinct;
    closes = λ j e. stops j (rw (← w.ends) e);
  }
