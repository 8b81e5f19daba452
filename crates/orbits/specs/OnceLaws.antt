-- Lists that share out the numbers below a bound, as statements.
use Rattle.std.specs.Prelude.{All, List, length, slice_index, sum_by, suc, zero, ℕ, ◌+◌, ◌<◌, ◌≡◌, ◌≢◌}
use Rattle.orbits.specs.Once.{HoldEachOnce}

-- they hold no other number
abbrev pub StandBelow : Type 0
StandBelow = (n : ℕ) (xss : List (List ℕ)) → HoldEachOnce n xss → All (λ xs. All (λ x. x < n) xs) xss

-- none of them holds a number twice
abbrev pub StandApart : Type 0
StandApart = (n : ℕ) (xss : List (List ℕ)) → HoldEachOnce n xss → All (λ xs. (i j : ℕ) → i < j → j < length xs → slice_index xs i ≢ slice_index xs j) xss

-- the sum of f over the numbers below n
abbrev pub sum_below : (ℕ → ℕ) → ℕ → ℕ
sum_below f zero = 0
sum_below f (suc n) = sum_below f n + f n

-- a sum over all of them is the sum over the numbers below the bound
abbrev pub SumsAgree : Type 0
SumsAgree = (n : ℕ) (xss : List (List ℕ)) → HoldEachOnce n xss → (f : ℕ → ℕ) → sum_by (λ xs. sum_by f xs) xss ≡ sum_below f n
