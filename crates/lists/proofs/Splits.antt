-- A list cut at the items that pass a test, by where they stand.
use Rattle.std.proofs.Common.{arith, drop, length, refl, slice_index, take, true, Bool, List, [], ℕ, ◌+◌, ◌<◌, ◌∙◌, ◌∷◌, ◌≡◌, ◌≤◌}
use Rattle.std.specs.List.{position_or_len, slice_split}
use Rattle.std.proofs.lemmas.Bool.{false_from_ne_true}
use Rattle.std.proofs.lemmas.List.Sums.{fails_before_first, position_or_len_is}
use Rattle.std.proofs.lemmas.List.Splits.{slice_split_first, slice_split_none}

-- nothing passes
pub one_part : (p : ℕ → Bool) (xs : List ℕ) → ((k : ℕ) → 0 ≤ k → k < length xs → p (slice_index xs k) ≡ true → ⊥) → slice_split p xs ≡ xs ∷ []
one_part p xs none =
    let e : position_or_len p xs ≡ length xs = position_or_len_is p xs (length xs) 0 (omega arith) (λ k lt. false_from_ne_true _ (none k (omega arith) lt)) (λ lt. absurd (omega arith)) in
    slice_split_none p xs (λ k d lt. fails_before_first p xs k d (omega arith))

-- the first that passes stands at place k
pub first_part : (p : ℕ → Bool) (xs : List ℕ) (k : ℕ) → k < length xs → ((j : ℕ) → 0 ≤ j → j < k → p (slice_index xs j) ≡ true → ⊥) → p (slice_index xs k) ≡ true
    → slice_split p xs ≡ take k xs ∷ slice_split p (drop (k + 1) xs)
first_part p xs k within before here =
    let e : position_or_len p xs ≡ k = position_or_len_is p xs k 0 (omega arith) (λ j lt. false_from_ne_true _ (before j (omega arith) lt)) (λ _. here) in
    let lt : position_or_len p xs < length xs = omega arith in
    slice_split_first p xs 0 lt ∙ rw e refl
