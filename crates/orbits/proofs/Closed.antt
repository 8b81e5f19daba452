-- Where each number goes on, nothing is the start of an open orbit.
use Rattle.std.proofs.Common.{◌≢◌, ℕ, ◌-◌, ◌<◌, List, length, get_or, replicate, Bool, false, arith, ⊎_elim, Option, None}
use Rattle.std.proofs.lemmas.List.{length-replicate}
use Rattle.std.proofs.lemmas.Bool.{both_ways}
use Rattle.orbits.specs.Marks.{AreChained, IsMarked}
use Rattle.orbits.specs.OrbitSteps.{AreStarts}
use Rattle.orbits.specs.Orbits.{after, last_number, IsOneToOne}
use Rattle.orbits.proofs.Exists.{starts_exist, walk_exists}
use Rattle.orbits.proofs.Finding.{blank, none_marked, on_or_off, start_open}

-- no number is marked
abbrev pub unmarked : List (Option ℕ) → List Bool
unmarked next = replicate (length next) false

module _ (next : List (Option ℕ)) (map : IsOneToOne next) (total : (i : ℕ) → i < length next → after next i ≢ None) where
  no-start : (starts : List Bool) → AreStarts next starts → (j : ℕ) → j < length next → IsMarked starts j → ⊥
  no-start starts are j h s =
      let walk = walk_exists next map j h in
      let some = walk.1.some in
      start_open next map starts are j walk.0 s walk.1 (total (last_number walk.0) (walk.1.within (length walk.0 - 1) (omega arith)))

  pub no-starts : AreStarts next (unmarked next)
  no-starts =
      let starts = starts_exist next map in
      record {
        sized = length-replicate (length next) false;
        none = λ i j e. blank (length next) j;
        some = λ j h off. ⊎_elim
            (λ s. absurd (no-start starts.0 starts.1 j h s))
            (λ n. starts.1.some j h n)
            (on_or_off (get_or starts.0 j false));
      }

pub none-chained : (next : List (Option ℕ)) → AreChained next (unmarked next) (length next) (unmarked next)
none-chained next = record {
  closed = none_marked next;
  heads = λ j h s. absurd (both_ways _ (blank (length next) j) s);
  reached = λ D t on x m. absurd (both_ways _ (blank (length next) x) m);
}
