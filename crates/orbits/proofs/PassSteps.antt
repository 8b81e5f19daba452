-- The steps of passing orbits, which note and mark each number once.
use Rattle.std.proofs.Common.{◌≡◌, ◌≢◌, ℕ, ◌+◌, ◌-◌, ◌<◌, ◌≤◌, List, [], ◌∷◌, ◌++◌, length, get_or, map, set, take, Bool, false, true, refl, sym, ap, subst, ◌∙◌, arith, Option, None, Some}
use Rattle.std.specs.List.{concat}
use Rattle.std.proofs.Math.Seq.{take-append_seam}
use Rattle.std.proofs.lemmas.List.{append-nil, append_assoc, get_or-map, length-append, length-map, map-append, take_all}
use Rattle.std.proofs.lemmas.List.Folds.{concat-append}
use Rattle.orbits.specs.Along.{AreOrbitsAlong, StandAlong}
use Rattle.orbits.specs.Marks.{IsMarked}
use Rattle.orbits.specs.OrbitSteps.{AreMarkedAlso, IsPassed}
use Rattle.orbits.specs.Orbits.{after, IsOneToOne, last_number, total_map}
use Rattle.orbits.proofs.Closed.{no-starts, none-chained, unmarked}
use Rattle.orbits.proofs.Finding.{AreFound, blank, found_all, found_cycle, found_none, found_pass}
use Rattle.orbits.proofs.Reading.{at_new, length_push}
use Rattle.orbits.proofs.Marking.{marked_more, marked_none}
use Rattle.orbits.proofs.Walks.{IsWalkTo, walk_short, walk_to_more, walk_to_start, walk_whole}

-- where a number goes on in a map in which each does
pub total_after : (next : List ℕ) (i : ℕ) → i < length next → after (total_map next) i ≡ Some (get_or next i 0)
total_after next i h = get_or-map Some next i 0 None h

pub total_goes_on : (next : List ℕ) (i : ℕ) → i < length (total_map next) → after (total_map next) i ≢ None
total_goes_on next i h none =
    let same = length-map next Some in
    let on : after (total_map next) i ≡ Some (get_or next i 0) = total_after next i (omega arith) in
    cc

-- one more number is marked
marked_push : (old new : List Bool) (walk : List ℕ) (place : ℕ) → place < length old → AreMarkedAlso old walk new → AreMarkedAlso old (walk ++ place ∷ []) (set new place true)
marked_push old new walk place fits m =
    let long = length_push walk place in
    let n = length walk in
    let whole : take (n + 1) (walk ++ place ∷ []) ≡ walk ++ place ∷ [] = take_all (n + 1) (walk ++ place ∷ []) (omega arith) in
    let front : take n (walk ++ place ∷ []) ≡ walk = take-append_seam walk (place ∷ []) in
    subst (λ ps. AreMarkedAlso old ps (set new place true)) whole
    (marked_more old new (walk ++ place ∷ []) n place (omega arith) (sym (at_new walk place n refl)) fits (subst (λ ps. AreMarkedAlso old ps new) (sym front) m))

-- a walk has come to a place, which is noted and marked as those before it
pub record IsPassing (next : List (Option ℕ)) (from place : ℕ) (old new : List ℕ) (marked marks : List Bool) : Type 0 where
  pub walk : List ℕ
  pub to : IsWalkTo next from place walk
  pub noted : new ≡ old ++ walk
  pub also : AreMarkedAlso marked walk marks

module _ (next : List (Option ℕ)) (one : IsOneToOne next) (from : ℕ) (old : List ℕ) (marked : List Bool) (sized : length marked ≡ length next) where
  pub passing_begins : from < length next → IsPassing next from from old (old ++ from ∷ []) marked (set marked from true)
  passing_begins h = record {
    walk = from ∷ [];
    to = walk_to_start next one from h;
    noted = refl;
    also = marked_push marked marked [] from (omega arith) (marked_none marked);
  }

  module _ (place : ℕ) (new : List ℕ) (marks : List Bool) (p : IsPassing next from place old new marked marks) where
    pub passing_more : (j : ℕ) → after next place ≡ Some j → j ≢ from → IsPassing next from j old (new ++ j ∷ []) marked (set marks j true)
    passing_more j on other =
        let inside = one.within place j on in
        record {
          walk = p.walk ++ j ∷ [];
          to = walk_to_more next one from place j p.walk p.to on other;
          noted = ap (λ xs. xs ++ j ∷ []) p.noted ∙ append_assoc old p.walk (j ∷ []);
          also = marked_push marked marks p.walk j (omega arith) p.also;
        }

    -- the place is one of the map
    pub passing_inside : place < length next
    passing_inside = let here = p.to.walk.within (length p.walk - 1) (let some = p.to.walk.some in omega arith) in rw (← p.to.ends) here

    passing_long : length new ≡ length old + length p.walk
    passing_long = ap length p.noted ∙ length-append old p.walk

    -- not more numbers than there are
    pub passing_short : length new ≤ length old + length next
    passing_short = let long = passing_long in let short = walk_short next one p.walk p.to.walk in omega arith

    pub passing_some : length old ≤ length new
    passing_some = let long = passing_long in omega arith

    pub passing_ends : ((j : ℕ) → after next place ≡ Some j → j ≡ from) → IsPassed next from (length new - length old) old new marked marks
    passing_ends stops = record {
      walk = p.walk;
      whole = walk_whole next one from place p.walk p.to stops;
      sized = let long = passing_long in omega arith;
      noted = p.noted;
      also = p.also;
    }

-- the cycles that were found up to a place
pub record AreFoundAlong (next : List (Option ℕ)) (place : ℕ) (passed : List Bool) (places sizes : List ℕ) : Type 0 where
  pub orbits : List (List ℕ)
  pub found : AreFound next (unmarked next) (unmarked next) place passed orbits
  pub along : StandAlong orbits places sizes

module _ (next : List (Option ℕ)) (one : IsOneToOne next) (total : (i : ℕ) → i < length next → after next i ≢ None) where
  pub none_along : AreFoundAlong next 0 (unmarked next) [] []
  none_along = record {
    orbits = [];
    found = found_none next one (unmarked next) (no-starts next one total) (unmarked next);
    along = record { joined = refl; sized = refl };
  }

  module _ (place : ℕ) (passed : List Bool) (places sizes : List ℕ) (f : AreFoundAlong next place passed places sizes) where
    -- one more cycle
    pub along_more : (size : ℕ) (marks : List Bool) (new : List ℕ) → IsPassed next place size places new passed marks → get_or passed place false ≡ false → AreFoundAlong next (place + 1) marks new (sizes ++ size ∷ [])
    along_more size marks new p fresh = record {
      orbits = f.orbits ++ p.walk ∷ [];
      found = found_cycle next one (unmarked next) (no-starts next one total) (unmarked next) (none-chained next) place passed marks p.walk f.orbits f.found p.whole (blank (length next) place) fresh p.also;
      along = record {
        joined = concat-append f.orbits (p.walk ∷ []) ∙ (ap (λ xs. concat f.orbits ++ xs) (append-nil p.walk) ∙ (ap (λ xs. xs ++ p.walk) f.along.joined ∙ sym p.noted));
        sized = map-append length f.orbits (p.walk ∷ []) ∙ (ap (λ n. map length f.orbits ++ n ∷ []) p.sized ∙ ap (λ xs. xs ++ size ∷ []) f.along.sized);
      };
    }

    -- or none
    pub along_pass : IsMarked passed place → AreFoundAlong next (place + 1) passed places sizes
    along_pass seen = record {
      orbits = f.orbits;
      found = found_pass next one (unmarked next) (no-starts next one total) (unmarked next) (none-chained next) place passed f.orbits f.found (blank (length next) place) (λ off. seen);
      along = f.along;
    }

  pub along_all : (place : ℕ) (passed : List Bool) (places sizes : List ℕ) → place ≡ length next → AreFoundAlong next place passed places sizes → AreOrbitsAlong next places sizes
  along_all place passed places sizes whole f =
      let all : AreFound next (unmarked next) (unmarked next) (length next) passed f.orbits = subst (λ n. AreFound next (unmarked next) (unmarked next) n passed f.orbits) whole f.found in
      record {
        orbits = f.orbits;
        are = found_all next one (unmarked next) (no-starts next one total) (unmarked next) (none-chained next) passed f.orbits all;
        order = record { firsts = all.firsts; least = all.least };
        along = f.along;
      }
