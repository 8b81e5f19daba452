-- The steps of finding orbits with marks.
use Rattle.std.proofs.Common.{◌≡◌, ◌≢◌, ◌⊎◌, inl, inr, ℕ, zero, suc, ◌+◌, ◌-◌, ◌<◌, ◌≤◌, List, [], ◌∷◌, ◌++◌, length, get_or, All, AllPairs, replicate, Bool, true, false, cond, not, ◌&&◌, ◌||◌, refl, sym, ap, ◌∙◌, arith, ⊎_elim, Option, Some, None, count_by, sum_by, eqb}
use Rattle.std.proofs.lemmas.Bool.{cases_lt, both_ways, lt-ltb, le-ltb, and_parts, and_cases, or_parts, not-true, not-false}
use Rattle.std.proofs.lemmas.List.{get_or_past, get_or_default, get_or-replicate, length-replicate}
use Rattle.std.proofs.lemmas.List.Sums.{sum_by_push}
use Rattle.std.proofs.lemmas.List.Elements.{All-push}
use Rattle.std.proofs.lemmas.List.Quantifiers.{all_pairs_push}
use Rattle.orbits.specs.Marks.{AreChained, AreClosed, IsMarked, begins_orbit}
use Rattle.orbits.specs.OrbitSteps.{AreMarkedAlso, IsWholeWalk, AreStarts}
use Rattle.orbits.specs.Orbits.{after, IsOneToOne, IsOrbit, GoesOn, first, last_number, AreOrbits}
use Rattle.orbits.proofs.Reading.{unwrap}
use Rattle.orbits.proofs.Members.{find, count_absent, count_present}
use Rattle.orbits.proofs.Walks.{IsWalk, walk_back, walk_short}

pub on_or_off : (b : Bool) → (b ≡ true) ⊎ (b ≡ false)
on_or_off true = inl refl
on_or_off false = inr refl

pub some_or_none : (r : Option ℕ) → ((j : ℕ) × (r ≡ Some j)) ⊎ (r ≡ None)
some_or_none (Some j) = inl (j, refl)
some_or_none None = inr refl

pub blank : (n x : ℕ) → get_or (replicate n false) x false ≡ false
blank n x = ⊎_elim (λ h. get_or-replicate n x false false h) (λ h. get_or_past (replicate n false) x false (let e = length-replicate n false in omega arith)) (cases_lt x n)

pub none_marked : (next : List (Option ℕ)) → AreClosed next (replicate (length next) false)
none_marked next = record { sized = length-replicate (length next) false; on = λ i j e m. absurd (both_ways _ (blank (length next) i) m); back = λ i j e m. absurd (both_ways _ (blank (length next) j) m) }

module _ (next : List (Option ℕ)) (map : IsOneToOne next) where
  -- a mark on a list is a mark on its first
  pub back_to_first : (marks : List Bool) (o : List ℕ) → AreClosed next marks → GoesOn next o → (k : ℕ) → k < length o → IsMarked marks (get_or o k 0) → IsMarked marks (first o)
  back_to_first marks o c steps zero h m = m
  back_to_first marks o c steps (suc k) h m =
      let same : suc k ≡ k + 1 = omega arith in
      let here : IsMarked marks (get_or o (k + 1) 0) = rw (← same) m in
      back_to_first marks o c steps k (omega arith) (c.back (get_or o k 0) (get_or o (k + 1) 0) (steps k (omega arith)) here)

  pub still : (old new : List Bool) (o : List ℕ) → AreMarkedAlso old o new → (x : ℕ) → IsMarked old x → IsMarked new x
  still old new o a x m = ⊎_elim (λ p. rw (← p.2) (a.here p.0 p.1)) (λ gone. a.others x gone ∙ m) (find x o)

  pub mark_orbit : (old new : List Bool) (o : List ℕ) → AreClosed next old → IsOrbit next o → AreMarkedAlso old o new → AreClosed next new
  mark_orbit old new o c orbit a = record {
    sized = a.sized ∙ c.sized;
    on = λ i j e m. ⊎_elim
        (λ p. on_orbit p.0 i j p.1 p.2 e)
        (λ gone. still old new o a j (c.on i j e (sym (a.others i gone) ∙ m)))
        (find i o);
    back = λ i j e m. ⊎_elim
        (λ p. back_orbit p.0 i j p.1 p.2 e)
        (λ gone. still old new o a i (c.back i j e (sym (a.others j gone) ∙ m)))
        (find j o);
  }
    where
      on_orbit : (k i j : ℕ) → k < length o → get_or o k 0 ≡ i → after next i ≡ Some j → IsMarked new j
      on_orbit k i j h is e = ⊎_elim
          (λ l. let e2 : after next i ≡ Some (get_or o (k + 1) 0) = ap (after next) (sym is) ∙ orbit.steps k l in
          rw (unwrap j (get_or o (k + 1) 0) (sym e ∙ e2)) (a.here (k + 1) l))
          (λ l. let end : k ≡ length o - 1 = omega arith in
          let e2 : after next (last_number o) ≡ Some j = ap (after next) (ap (λ m. get_or o m 0) (sym end) ∙ is) ∙ e in
          rw (orbit.closes j e2) (a.here 0 orbit.some))
          (cases_lt (k + 1) (length o))

      back_orbit : (k i j : ℕ) → k < length o → get_or o k 0 ≡ j → after next i ≡ Some j → IsMarked new i
      back_orbit zero i j h is e =
          let to_first : after next i ≡ Some (first o) = e ∙ ap Some (sym is) in
          ⊎_elim
          (λ p. let e2 : after next (last_number o) ≡ Some (first o) = p.1 ∙ ap Some (orbit.closes p.0 p.1) in
          let some = orbit.some in
          rw (map.one i (last_number o) (first o) to_first e2) (a.here (length o - 1) (omega arith)))
          (λ none. absurd (orbit.opens none i to_first))
          (some_or_none (after next (last_number o)))
      back_orbit (suc k) i j h is e =
          let same : suc k ≡ k + 1 = omega arith in
          let e2 : after next (get_or o k 0) ≡ Some j = orbit.steps k (omega arith) ∙ ap Some (ap (λ m. get_or o m 0) (sym same) ∙ is) in
          rw (map.one i (get_or o k 0) j e e2) (a.here k (omega arith))

  module _ (starts : List Bool) (are : AreStarts next starts) where
    -- a walk from a start is an orbit, and an open one
    pub start_orbit : (place : ℕ) (o : List ℕ) → IsMarked starts place → IsWholeWalk next place o → IsOrbit next o
    start_orbit place o s w = record {
      some = w.some;
      steps = w.steps;
      closes = λ j e. w.closes j e ∙ sym w.begins;
      opens = λ none i e. both_ways _ (are.none i place (e ∙ ap Some w.begins)) s;
    }

    pub start_open : (place : ℕ) (o : List ℕ) → IsMarked starts place → IsWholeWalk next place o → after next (last_number o) ≢ None → ⊥
    start_open place o s w on = ⊎_elim
        (λ p. both_ways _ (are.none (last_number o) place (p.1 ∙ ap Some (w.closes p.0 p.1))) s)
        (λ none. on none)
        (some_or_none (after next (last_number o)))

    module _ (chained : List Bool) (closed : AreClosed next chained) (heads : (j : ℕ) → j < length next → IsMarked starts j → IsMarked chained j) where
      -- off the open orbits no walk ends, since one could go back for ever
      endless : (fuel : ℕ) (o : List ℕ) → IsWalk next o → after next (last_number o) ≡ None → get_or chained (first o) false ≡ false → length next < length o + fuel → ⊥
      endless zero o w stop off h = let short = walk_short next map o w in omega arith
      endless (suc fuel) o w stop off h =
          let inside = w.within 0 w.some in
          ⊎_elim
          (λ s. both_ways _ off (heads (first o) inside s))
          (λ n. let pred = are.some (first o) inside n in
          let longer = walk_back next map o pred.0 w stop pred.1 in
          let some = w.some in
          let end : last_number (pred.0 ∷ o) ≡ last_number o = last_cons pred.0 o some in
          ⊎_elim
          (λ m. both_ways _ off (closed.on pred.0 (first o) pred.1 m))
          (λ m. endless fuel (pred.0 ∷ o) longer (rw end stop) m (omega arith))
          (on_or_off (get_or chained pred.0 false)))
          (on_or_off (get_or starts (first o) false))
        where
          last_cons : (p : ℕ) (xs : List ℕ) → 0 < length xs → last_number (p ∷ xs) ≡ last_number xs
          last_cons p xs some = let e : length (p ∷ xs) - 1 ≡ suc (length xs - 1) = omega arith in ap (λ k. get_or (p ∷ xs) k 0) e

      pub cycle_goes_on : (place : ℕ) (o : List ℕ) → IsWholeWalk next place o → get_or chained place false ≡ false → after next (last_number o) ≢ None
      cycle_goes_on place o w off stop =
          let walk : IsWalk next o = record { some = w.some; within = w.within; steps = w.steps; distinct = w.distinct } in
          endless (length next) o walk stop (rw w.begins off) (let some = w.some in omega arith)

      pub cycle_orbit : (place : ℕ) (o : List ℕ) → IsWholeWalk next place o → get_or chained place false ≡ false → IsOrbit next o
      cycle_orbit place o w off = record {
        some = w.some;
        steps = w.steps;
        closes = λ j e. w.closes j e ∙ sym w.begins;
        opens = λ none i e. cycle_goes_on place o w off none;
      }

-- the orbits that were found up to a place
pub record AreFound (next : List (Option ℕ)) (starts chained : List Bool) (place : ℕ) (seen : List Bool) (os : List (List ℕ)) : Type 0 where
  pub closed : AreClosed next seen
  pub counts : (x : ℕ) → sum_by (count_by (eqb x)) os ≡ cond {A = ℕ} (get_or seen x false) 1 0
  pub each : All (IsOrbit next) os
  pub heads : (j : ℕ) → j < place → IsMarked starts j → IsMarked seen j
  pub rest : (j : ℕ) → j < place → get_or starts j false ≡ false → get_or chained j false ≡ false → IsMarked seen j
  pub early : (j : ℕ) → IsMarked starts j → IsMarked seen j → j < place
  pub below : All (λ o. first o < place) os
  pub firsts : AllPairs (λ o p. first o < first p) os
  pub least : All (λ o. after next (last_number o) ≢ None → All (λ i. first o ≤ i) o) os

module _ (next : List (Option ℕ)) (map : IsOneToOne next) (starts : List Bool) (are : AreStarts next starts) where
  pub chained_none : AreChained next starts 0 (replicate (length next) false)
  chained_none = record {
    closed = none_marked next;
    heads = λ j h s. absurd (omega arith);
    reached = λ D s on x m. absurd (both_ways _ (blank (length next) _) m);
  }

  -- what a walk from a number leads to is in each set that holds the number and is closed
  leads : (D : ℕ → Bool) (o : List ℕ) → GoesOn next o → ((i j : ℕ) → after next i ≡ Some j → D i ≡ true → D j ≡ true) → D (first o) ≡ true → (k : ℕ) → k < length o → D (get_or o k 0) ≡ true
  leads D o steps on d zero h = d
  leads D o steps on d (suc k) h =
      let same : k + 1 ≡ suc k = omega arith in
      on (get_or o k 0) (get_or o (suc k) 0) (steps k (omega arith) ∙ ap Some (ap (λ m. get_or o m 0) same)) (leads D o steps on d k (omega arith))

  pub chained_more : (place : ℕ) (old new : List Bool) (o : List ℕ) → AreChained next starts place old → IsMarked starts place → IsWholeWalk next place o → AreMarkedAlso old o new → AreChained next starts (place + 1) new
  chained_more place old new o c s w a =
      let orbit = start_orbit next map starts are place o s w in
      record {
        closed = mark_orbit next map old new o c.closed orbit a;
        heads = λ j h t. ⊎_elim (λ l. still next map old new o a j (c.heads j l t)) (λ l. let is : j ≡ first o = (let e : j ≡ place = omega arith in e ∙ sym w.begins) in rw is (a.here 0 w.some)) (cases_lt j place);
        reached = λ D t on x m. ⊎_elim
            (λ p. rw (← p.2) (leads D o w.steps on (rw w.begins (t place s)) p.0 p.1))
            (λ gone. c.reached D t on x (sym (a.others x gone) ∙ m))
            (find x o);
      }

  pub chained_pass : (place : ℕ) (old : List Bool) → AreChained next starts place old → get_or starts place false ≡ false → AreChained next starts (place + 1) old
  chained_pass place old c n = record {
    closed = c.closed;
    heads = λ j h t. ⊎_elim (λ l. c.heads j l t) (λ l. let is : j ≡ place = omega arith in absurd (both_ways _ n (rw (← is) t))) (cases_lt j place);
    reached = c.reached;
  }

  pub found_none : (chained : List Bool) → AreFound next starts chained 0 (replicate (length next) false) []
  found_none chained = record {
    closed = none_marked next;
    counts = λ x. rw (blank (length next) x) refl;
    each = λ k d h. absurd (omega arith);
    heads = λ j h s. absurd (omega arith);
    rest = λ j h s t. absurd (omega arith);
    early = λ j s m. absurd (both_ways _ (blank (length next) _) m);
    below = λ k d h. absurd (omega arith);
    firsts = λ i j d h l. absurd (omega arith);
    least = λ k d h. absurd (omega arith);
  }

  module _ (chained : List Bool) (c : AreChained next starts (length next) chained) where
    -- an orbit whose numbers are new
    found_orbit : (place : ℕ) (old new : List Bool) (o : List ℕ) (os : List (List ℕ)) → AreFound next starts chained place old os → IsWholeWalk next place o → get_or old place false ≡ false → IsOrbit next o → (after next (last_number o) ≢ None → All (λ i. first o ≤ i) o) → AreMarkedAlso old o new → AreFound next starts chained (place + 1) new (os ++ o ∷ [])
    found_orbit place old new o os f w fresh orbit least a =
        let here : IsMarked new place = rw (← w.begins) (a.here 0 w.some) in
        record {
          closed = mark_orbit next map old new o f.closed orbit a;
          counts = λ x.
              let more = sum_by_push (count_by (eqb x)) os o in
              let was = f.counts x in
              ⊎_elim
              (λ p. let off = unseen x p.0 p.1 p.2 in
              let now : get_or new x false ≡ true = rw (← p.2) (a.here p.0 p.1) in
              let one = count_present x o p.0 w.distinct p.1 p.2 in
              let none : sum_by (count_by (eqb x)) os ≡ 0 = was ∙ rw off refl in
              rw now (omega arith))
              (λ gone. let same = a.others x gone in
              let none = count_absent x o gone in
              rw same (omega arith))
              (find x o);
          each = All-push (IsOrbit next) os o f.each orbit;
          heads = λ j h t. ⊎_elim (λ l. still next map old new o a j (f.heads j l t)) (λ l. let is : j ≡ place = omega arith in rw is here) (cases_lt j place);
          rest = λ j h s t. ⊎_elim (λ l. still next map old new o a j (f.rest j l s t)) (λ l. let is : j ≡ place = omega arith in rw is here) (cases_lt j place);
          early = λ j t m. ⊎_elim
              (λ p. ⊎_elim (λ z. let is : j ≡ place = sym p.2 ∙ (ap (λ k. get_or o k 0) z ∙ w.begins) in omega arith) (λ l. absurd (inner j p.0 p.1 p.2 l t)) (zero_or_more p.0))
              (λ gone. let low = f.early j t (sym (a.others j gone) ∙ m) in omega arith)
              (find j o);
          below = All-push (λ p. first p < place + 1) os o (λ k d h. let low = f.below k d h in omega arith) (let is = w.begins in omega arith);
          firsts = all_pairs_push (λ p q. first p < first q) os o f.firsts (λ k d h. let low = f.below k d h in let is = w.begins in omega arith);
          least = All-push (λ p. after next (last_number p) ≢ None → All (λ i. first p ≤ i) p) os o f.least least;
        }
      where
        unseen : (x k : ℕ) → k < length o → get_or o k 0 ≡ x → get_or old x false ≡ false
        unseen x k h is = ⊎_elim
            (λ m. absurd (both_ways _ fresh (rw (← w.begins) (back_to_first next map old o f.closed w.steps k h (rw is m)))))
            (λ off. off)
            (on_or_off (get_or old x false))

        zero_or_more : (k : ℕ) → (k ≡ 0) ⊎ (0 < k)
        zero_or_more zero = inl refl
        zero_or_more (suc k) = inr (omega arith)

        inner : (j k : ℕ) → k < length o → get_or o k 0 ≡ j → 0 < k → IsMarked starts j → ⊥
        inner j k h is l t =
            let e : after next (get_or o (k - 1) 0) ≡ Some j = w.steps (k - 1) (omega arith) ∙ ap Some (ap (λ m. get_or o m 0) (omega arith) ∙ is) in
            both_ways _ (are.none (get_or o (k - 1) 0) j e) t

    pub found_start : (place : ℕ) (old new : List Bool) (o : List ℕ) (os : List (List ℕ)) → AreFound next starts chained place old os → IsWholeWalk next place o → IsMarked starts place → AreMarkedAlso old o new → AreFound next starts chained (place + 1) new (os ++ o ∷ [])
    found_start place old new o os f w s a =
        found_orbit place old new o os f w
        (⊎_elim (λ m. let low = f.early place s m in absurd (omega arith)) (λ off. off) (on_or_off (get_or old place false)))
        (start_orbit next map starts are place o s w)
        (λ on. absurd (start_open next map starts are place o s w on))
        a

    pub found_cycle : (place : ℕ) (old new : List Bool) (o : List ℕ) (os : List (List ℕ)) → AreFound next starts chained place old os → IsWholeWalk next place o → get_or chained place false ≡ false → get_or old place false ≡ false → AreMarkedAlso old o new → AreFound next starts chained (place + 1) new (os ++ o ∷ [])
    found_cycle place old new o os f w off fresh a =
        found_orbit place old new o os f w fresh
        (cycle_orbit next map starts are chained c.closed c.heads place o w off)
        (λ on k d h. rw w.begins (⊎_elim (λ l. absurd (lower k d h l)) (λ l. l) (cases_lt (get_or o k d) place)))
        a
      where
        lower : (k d : ℕ) → k < length o → get_or o k d < place → ⊥
        lower k d h l =
            let same : get_or o k d ≡ get_or o k 0 = get_or_default o k d 0 h in
            let low : get_or o k 0 < place = omega arith in
            let not_chained : IsMarked chained (get_or o k 0) → ⊥ = λ m. both_ways _ off (rw (← w.begins) (back_to_first next map chained o c.closed w.steps k h m)) in
            ⊎_elim
            (λ t. not_chained (c.heads (get_or o k 0) (w.within k h) t))
            (λ t. ⊎_elim not_chained
            (λ u. both_ways _ fresh (rw (← w.begins) (back_to_first next map old o f.closed w.steps k h (f.rest (get_or o k 0) low t u))))
            (on_or_off (get_or chained (get_or o k 0) false)))
            (on_or_off (get_or starts (get_or o k 0) false))

    pub found_pass : (place : ℕ) (seen : List Bool) (os : List (List ℕ)) → AreFound next starts chained place seen os → get_or starts place false ≡ false → (get_or chained place false ≡ false → IsMarked seen place) → AreFound next starts chained (place + 1) seen os
    found_pass place seen os f n s = record {
      closed = f.closed;
      counts = f.counts;
      each = f.each;
      heads = λ j h t. ⊎_elim (λ l. f.heads j l t) (λ l. let is : j ≡ place = omega arith in absurd (both_ways _ n (rw (← is) t))) (cases_lt j place);
      rest = λ j h t u. ⊎_elim (λ l. f.rest j l t u) (λ l. let is : j ≡ place = omega arith in rw is (s (rw (← is) u))) (cases_lt j place);
      early = λ j t m. let low = f.early j t m in omega arith;
      below = λ k d h. let low = f.below k d h in omega arith;
      firsts = f.firsts;
      least = f.least;
    }

    -- an orbit begins here, or none
    pub found_begun : (place : ℕ) (old new : List Bool) (o : List ℕ) (os : List (List ℕ)) → AreFound next starts chained place old os → IsWholeWalk next place o → begins_orbit starts chained old place ≡ true → AreMarkedAlso old o new → AreFound next starts chained (place + 1) new (os ++ o ∷ [])
    found_begun place old new o os f w e a = ⊎_elim
        (λ s. found_start place old new o os f w s a)
        (λ n. let both = and_parts _ _ (sym (ap (λ b. b || (not (get_or chained place false) && not (get_or old place false))) n) ∙ e) in
        found_cycle place old new o os f w (not-true _ both.0) (not-true _ both.1) a)
        (on_or_off (get_or starts place false))

    pub found_none_begun : (place : ℕ) (seen : List Bool) (os : List (List ℕ)) → AreFound next starts chained place seen os → begins_orbit starts chained seen place ≡ false → AreFound next starts chained (place + 1) seen os
    found_none_begun place seen os f e =
        let none = or_parts _ _ e in
        found_pass place seen os f none.0 (λ off. ⊎_elim
        (λ on. absurd (both_ways _ off (not-false _ on)))
        (λ on. not-false _ on)
        (and_cases _ _ none.1))

    pub found_all : (seen : List Bool) (os : List (List ℕ)) → AreFound next starts chained (length next) seen os → AreOrbits next os
    found_all seen os f = record {
      once = λ x. f.counts x ∙ ap (λ b. cond {A = ℕ} b 1 0) (⊎_elim (λ h. all x h ∙ sym (lt-ltb x (length next) h)) (λ h. let sized = f.closed.sized in get_or_past seen x false (omega arith) ∙ sym (le-ltb x (length next) h)) (cases_lt x (length next)));
      each = f.each;
    }
      where
        started : (j : ℕ) → IsMarked starts j → get_or seen j false ≡ true
        started j t = ⊎_elim (λ h. f.heads j h t) (λ h. let sized = are.sized in absurd (both_ways _ (get_or_past starts j false (omega arith)) t)) (cases_lt j (length next))

        all : (x : ℕ) → x < length next → get_or seen x false ≡ true
        all x h = ⊎_elim
            (λ m. c.reached (λ y. get_or seen y false) started f.closed.on x m)
            (λ off. ⊎_elim (λ t. f.heads x h t) (λ t. f.rest x h t off) (on_or_off (get_or starts x false)))
            (on_or_off (get_or chained x false))
