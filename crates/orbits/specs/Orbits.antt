-- The orbits of a partial one-to-one map on the numbers below a bound.
-- The map is a list: number i goes on to j if place i has Some j.
use Rattle.std.specs.Prelude.{◌≡◌, ◌≢◌, ℕ, ◌+◌, ◌-◌, ◌<◌, ◌≤◌, List, length, map, slice_index, slice_index_or, All, AllPairs, Option, Some, None}
use Rattle.orbits.specs.Once.{HoldEachOnce}

-- what a number goes on to
abbrev pub after : List (Option ℕ) → ℕ → Option ℕ
after next i = slice_index_or next i None

-- the map in which each number goes on, to the one at its place
abbrev pub total_map : List ℕ → List (Option ℕ)
total_map next = map Some next

-- no number goes on to one out of range, and no two go on to the same one
pub record IsOneToOne (next : List (Option ℕ)) : Type 0 where
  pub within : (i j : ℕ) → after next i ≡ Some j → j < length next
  pub one : (i k j : ℕ) → after next i ≡ Some j → after next k ≡ Some j → i ≡ k

abbrev pub first : List ℕ → ℕ
first o = slice_index o 0

abbrev pub last_number : List ℕ → ℕ
last_number o = slice_index o (length o - 1)

-- each number of the list but the last goes on to the one after it
abbrev pub GoesOn : List (Option ℕ) → List ℕ → Type 0
GoesOn next o = (k : ℕ) → k + 1 < length o → after next (slice_index o k) ≡ Some (slice_index o (k + 1))

-- An orbit: if its last number goes on, it goes on to the first; otherwise nothing goes on to the first.
pub record IsOrbit (next : List (Option ℕ)) (o : List ℕ) : Type 0 where
  pub some : 0 < length o
  pub steps : GoesOn next o
  pub closes : (j : ℕ) → after next (last_number o) ≡ Some j → j ≡ first o
  pub opens : after next (last_number o) ≡ None → (i : ℕ) → after next i ≢ Some (first o)

-- the orbits of a map: each number below the bound in one of them, once
pub record AreOrbits (next : List (Option ℕ)) (os : List (List ℕ)) : Type 0 where
  pub once : HoldEachOnce (length next) os
  pub each : All (IsOrbit next) os

-- orbits in order of their first numbers, each cycle begun at its least number
pub record AreOrbitsInOrder (next : List (Option ℕ)) (os : List (List ℕ)) : Type 0 where
  pub firsts : AllPairs (λ o p. first o < first p) os
  pub least : All (λ o. after next (last_number o) ≢ None → All (λ i. first o ≤ i) o) os
