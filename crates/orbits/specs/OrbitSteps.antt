-- Words of private clauses on finding orbits. No public contract cites them.
-- They are walks from a number on, the numbers at which open orbits start, marks, and walks that are noted.
use Rattle.std.specs.Prelude.{◌≡◌, ◌≢◌, ℕ, ◌++◌, ◌<◌, List, length, slice_index, slice_index_or, Option, Some, Bool, true, false}
use Rattle.orbits.specs.Orbits.{after, first, last_number, GoesOn}

-- numbers from one on, each going on to the one after it, none twice, up to where they end or close
pub record IsWholeWalk (next : List (Option ℕ)) (from : ℕ) (o : List ℕ) : Type 0 where
  pub some : 0 < length o
  pub begins : first o ≡ from
  pub within : (k : ℕ) → k < length o → slice_index o k < length next
  pub steps : GoesOn next o
  pub distinct : (i j : ℕ) → i < j → j < length o → slice_index o i ≢ slice_index o j
  pub closes : (j : ℕ) → after next (last_number o) ≡ Some j → j ≡ from

-- for each number whether nothing goes on to it
pub record AreStarts (next : List (Option ℕ)) (starts : List Bool) : Type 0 where
  pub sized : length starts ≡ length next
  pub none : (i j : ℕ) → after next i ≡ Some j → slice_index_or starts j false ≡ false
  pub some : (j : ℕ) → j < length next → slice_index_or starts j false ≡ false → (i : ℕ) × (after next i ≡ Some j)

-- these places are marked too, and no others
pub record AreMarkedAlso (old : List Bool) (places : List ℕ) (new : List Bool) : Type 0 where
  pub sized : length new ≡ length old
  pub here : (k : ℕ) → k < length places → slice_index_or new (slice_index places k) false ≡ true
  pub others : (x : ℕ) → ((k : ℕ) → k < length places → slice_index places k ≢ x) → slice_index_or new x false ≡ slice_index_or old x false

-- the `size` numbers of a whole walk come after the old ones and are marked
pub record IsPassed (next : List (Option ℕ)) (from size : ℕ) (old new : List ℕ) (marked marks : List Bool) : Type 0 where
  pub walk : List ℕ
  pub whole : IsWholeWalk next from walk
  pub sized : length walk ≡ size
  pub noted : new ≡ old ++ walk
  pub also : AreMarkedAlso marked walk marks
