-- Every partial one-to-one map has orbits: on lists, with no memory.
use Rattle.std.proofs.Common.{◌≡◌, ℕ, zero, suc, ◌+◌, ◌<◌, List, [], ◌∷◌, ◌++◌, length, get_or, set, take, replicate, Bool, true, false, refl, sym, ◌∙◌, arith, ⊎_elim, Option, Some, None}
use Rattle.std.proofs.lemmas.List.{get_or-replicate, length-replicate, take_all}
use Rattle.std.proofs.lemmas.Bool.{both_ways}
use Rattle.orbits.specs.Marks.{AreChained}
use Rattle.orbits.specs.OrbitSteps.{AreMarkedAlso, AreStarts, IsWholeWalk}
use Rattle.orbits.specs.Orbits.{after, IsOneToOne, AreOrbits, AreOrbitsInOrder}
use Rattle.orbits.proofs.Reading.{length_push, unwrap}
use Rattle.orbits.proofs.Walks.{IsWalkTo, walk_to_start, walk_to_more, walk_whole, walk_short}
use Rattle.orbits.proofs.Marking.{marked_none, marked_more, AreStartsUpTo, starts_more, starts_pass, starts_all, same_or_not}
use Rattle.orbits.proofs.Finding.{on_or_off, some_or_none, chained_none, chained_more, chained_pass, AreFound, found_none, found_start, found_cycle, found_pass, found_all}

mark_from : (old : List Bool) (places : List ℕ) → ((k : ℕ) → k < length places → get_or places k 0 < length old) → (fuel i : ℕ) (new : List Bool) → AreMarkedAlso old (take i places) new → i + fuel ≡ length places → (marks : List Bool) × AreMarkedAlso old places marks
mark_from old places fit zero i new m e = (new, rw (← take_all i places (omega arith)) m)
mark_from old places fit (suc fuel) i new m e =
    let h : i < length places = omega arith in
    mark_from old places fit fuel (i + 1) (set new (get_or places i 0) true) (marked_more old new places i (get_or places i 0) h refl (fit i h) m) (omega arith)

pub mark_exists : (old : List Bool) (places : List ℕ) → ((k : ℕ) → k < length places → get_or places k 0 < length old) → (marks : List Bool) × AreMarkedAlso old places marks
mark_exists old places fit = mark_from old places fit (length places) 0 old (marked_none old) (omega arith)

module _ (next : List (Option ℕ)) (map : IsOneToOne next) where
  starts_from : (fuel n : ℕ) (starts : List Bool) → AreStartsUpTo next n starts → n + fuel ≡ length next → (starts : List Bool) × AreStarts next starts
  starts_from zero n starts s e = (starts, starts_all next map starts n (omega arith) s)
  starts_from (suc fuel) n starts s e = ⊎_elim
      (λ p. starts_from fuel (n + 1) (set starts p.0 false) (starts_more next map starts n p.0 s p.1) (omega arith))
      (λ none. starts_from fuel (n + 1) starts (starts_pass next map starts n s none) (omega arith))
      (some_or_none (after next n))

  pub starts_exist : (starts : List Bool) × AreStarts next starts
  starts_exist = starts_from (length next) 0 (replicate (length next) true)
      (record {
        sized = length-replicate (length next) true;
        none = λ i j h e. absurd (omega arith);
        some = λ j h e. absurd (both_ways _ e (get_or-replicate (length next) j true false h));
      })
      (omega arith)

  walk_from : (from fuel place : ℕ) (o : List ℕ) → IsWalkTo next from place o → length next < length o + fuel → (o : List ℕ) × IsWholeWalk next from o
  walk_from from zero place o w h = let short = walk_short next map o w.walk in absurd (omega arith)
  walk_from from (suc fuel) place o w h = ⊎_elim
      (λ p. ⊎_elim
      (λ same. (o, walk_whole next map from place o w (λ j e. unwrap j p.0 (sym e ∙ p.1) ∙ same)))
      (λ new. let long = length_push o p.0 in walk_from from fuel p.0 (o ++ p.0 ∷ []) (walk_to_more next map from place p.0 o w p.1 new) (omega arith))
      (same_or_not p.0 from))
      (λ none. (o, walk_whole next map from place o w (λ j e. absurd (apart j (sym e ∙ none)))))
      (some_or_none (after next place))
    where
      apart : (x : ℕ) → Some x ≡ None → ⊥
      apart x p = cc

  pub walk_exists : (from : ℕ) → from < length next → (o : List ℕ) × IsWholeWalk next from o
  walk_exists from h = walk_from from (length next) from (from ∷ []) (walk_to_start next map from h) (omega arith)

  module _ (starts : List Bool) (are : AreStarts next starts) where
    chained_from : (fuel place : ℕ) (old : List Bool) → AreChained next starts place old → place + fuel ≡ length next → (chained : List Bool) × AreChained next starts (length next) chained
    chained_from zero place old c e = let whole : place ≡ length next = omega arith in (old, rw (← whole) c)
    chained_from (suc fuel) place old c e = ⊎_elim
        (λ s. let walk = walk_exists place (omega arith) in
        let sized = c.closed.sized in
        let marks = mark_exists old walk.0 (λ k h. let inside = walk.1.within k h in omega arith) in
        chained_from fuel (place + 1) marks.0 (chained_more next map starts are place old marks.0 walk.0 c s walk.1 marks.1) (omega arith))
        (λ n. chained_from fuel (place + 1) old (chained_pass next map starts are place old c n) (omega arith))
        (on_or_off (get_or starts place false))

    module _ (chained : List Bool) (c : AreChained next starts (length next) chained) where
      found_from : (fuel place : ℕ) (seen : List Bool) (os : List (List ℕ)) → AreFound next starts chained place seen os → place + fuel ≡ length next → (os : List (List ℕ)) × AreOrbits next os × AreOrbitsInOrder next os
      found_from zero place seen os f e =
          let whole : place ≡ length next = omega arith in
          (os, found_all next map starts are chained c seen os (rw (← whole) f), record { firsts = f.firsts; least = f.least })
      found_from (suc fuel) place seen os f e =
          let walk = walk_exists place (omega arith) in
          let sized = f.closed.sized in
          let marks = mark_exists seen walk.0 (λ k h. let inside = walk.1.within k h in omega arith) in
          ⊎_elim
          (λ s. found_from fuel (place + 1) marks.0 (os ++ walk.0 ∷ []) (found_start next map starts are chained c place seen marks.0 walk.0 os f walk.1 s marks.1) (omega arith))
          (λ n. ⊎_elim
          (λ m. found_from fuel (place + 1) seen os (found_pass next map starts are chained c place seen os f n (λ off. absurd (both_ways _ off m))) (omega arith))
          (λ off. ⊎_elim
          (λ m. found_from fuel (place + 1) seen os (found_pass next map starts are chained c place seen os f n (λ o. m)) (omega arith))
          (λ fresh. found_from fuel (place + 1) marks.0 (os ++ walk.0 ∷ []) (found_cycle next map starts are chained c place seen marks.0 walk.0 os f walk.1 off fresh marks.1) (omega arith))
          (on_or_off (get_or seen place false)))
          (on_or_off (get_or chained place false)))
          (on_or_off (get_or starts place false))

  -- every partial one-to-one map has orbits in order
  pub orbits_exist : (os : List (List ℕ)) × AreOrbits next os × AreOrbitsInOrder next os
  orbits_exist =
      let starts = starts_exist in
      let chained = chained_from starts.0 starts.1 (length next) 0 (replicate (length next) false) (chained_none next map starts.0 starts.1) (omega arith) in
      found_from starts.0 starts.1 chained.0 chained.1 (length next) 0 (replicate (length next) false) [] (found_none next map starts.0 starts.1 chained.0) (omega arith)
