-- Marks on the numbers of a map, as they arise when orbits are found. No public contract cites them.
use Rattle.std.specs.Prelude.{◌≡◌, ℕ, ◌++◌, ◌∷◌, [], ◌&&◌, ◌||◌, not, ◌<◌, List, length, slice_index_or, Bool, true, false, Option, Some}
use Rattle.orbits.specs.OrbitSteps.{AreMarkedAlso, IsWholeWalk}
use Rattle.orbits.specs.Orbits.{after}

abbrev pub is_marked : List Bool → ℕ → Bool
is_marked marks x = slice_index_or marks x false

abbrev pub IsMarked : List Bool → ℕ → Type 0
IsMarked marks x = is_marked marks x ≡ true

-- the marks hold whole orbits
pub record AreClosed (next : List (Option ℕ)) (marks : List Bool) : Type 0 where
  pub sized : length marks ≡ length next
  pub on : (i j : ℕ) → after next i ≡ Some j → IsMarked marks i → IsMarked marks j
  pub back : (i j : ℕ) → after next i ≡ Some j → IsMarked marks j → IsMarked marks i

-- the open orbits that begin below a place are marked, and every marked number is reached from a start
pub record AreChained (next : List (Option ℕ)) (starts : List Bool) (place : ℕ) (chained : List Bool) : Type 0 where
  pub closed : AreClosed next chained
  pub heads : (j : ℕ) → j < place → IsMarked starts j → IsMarked chained j
  pub reached : (D : ℕ → Bool) → ((j : ℕ) → IsMarked starts j → D j ≡ true) → ((i j : ℕ) → after next i ≡ Some j → D i ≡ true → D j ≡ true) → (x : ℕ) → IsMarked chained x → D x ≡ true

-- an orbit begins here: an open one, or a closed one whose numbers are unseen
abbrev pub begins_orbit : List Bool → List Bool → List Bool → ℕ → Bool
begins_orbit starts chained seen place = is_marked starts place || (not (is_marked chained place) && not (is_marked seen place))

-- the whole walk from a number was marked, and comes after the others
pub record IsOrbitAdded (next : List (Option ℕ)) (from : ℕ) (marked marks : List Bool) (old new : List (List ℕ)) : Type 0 where
  pub walk : List ℕ
  pub whole : IsWholeWalk next from walk
  pub also : AreMarkedAlso marked walk marks
  pub added : new ≡ old ++ walk ∷ []
