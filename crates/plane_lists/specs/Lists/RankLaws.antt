-- The laws of ranks, as statements.
use Rattle.std.specs.Prelude.{Bool, List, false, length, not, ℕ, ◌%◌, ◌+◌, ◌≡◌}
use Rattle.std.specs.List.{count_by, sum_by}
use Rattle.plane_lists.specs.Lists.Parity.{is_even}
use Rattle.plane_lists.specs.Lists.Rank.{IsOrder, rank, sum_from}

-- the ranks are 0, 1, .., each once: a sum over them is the sum over these numbers
abbrev pub RanksAreFirstNumbers : Type 0 → Type 0
RanksAreFirstNumbers X =
    (above : X → X → Bool) (xs : List X) → IsOrder false above xs → (f : ℕ → ℕ) →
    sum_by (λ x. f (rank above xs x)) xs ≡ sum_from f 0 (length xs)

-- as many have even rank as have odd rank, and one more if the length of the list is odd
abbrev pub EvenRanksAreHalf : Type 0 → Type 0
EvenRanksAreHalf X =
    (above : X → X → Bool) (xs : List X) → IsOrder false above xs →
    count_by (λ x. is_even (rank above xs x)) xs ≡ count_by (λ x. not (is_even (rank above xs x))) xs + length xs % 2
