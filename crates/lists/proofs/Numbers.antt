-- Numbers.
use Rattle.std.proofs.Common.{arith, inl, inr, min, pos, ℕ, ◌%◌, ◌+◌, ◌-ℤ◌, ◌<◌, ◌≡◌, ◌≤◌, ◌⊎◌}
use Rattle.std.proofs.lemmas.Bool.{cases_lt}
use Rattle.std.proofs.lemmas.Int.{ints}

-- one of some is some
pub some_min : (m n : ℕ) → m ≡ min 1 n → 0 < n → 0 < m
some_min m n e h = omega arith

pub min_some : (m n : ℕ) → m ≡ min 1 n → 0 < m → 0 < n
min_some m n e h = omega arith

-- a difference of none or one
pub none_or_one : (m n : ℕ) → (pos m -ℤ pos n ≡ pos 0) ⊎ (pos m -ℤ pos n ≡ pos 1) → (m ≡ n) ⊎ (m ≡ n + 1)
none_or_one m n (inl h) = inl (omega (arith, ints))
none_or_one m n (inr h) = inr (omega (arith, ints))

-- a number is even or odd
even_or_odd_by : (n : ℕ) → (n % 2 < 1) ⊎ (1 ≤ n % 2) → (n % 2 ≡ 0) ⊎ (n % 2 ≡ 1)
even_or_odd_by n (inl h) = inl (omega arith)
even_or_odd_by n (inr h) = inr (omega arith)

pub even_or_odd : (n : ℕ) → (n % 2 ≡ 0) ⊎ (n % 2 ≡ 1)
even_or_odd n = even_or_odd_by n (cases_lt (n % 2) 1)

-- a sum is odd where its parts differ by 1
pub odd_sum : (n u d : ℕ) → n ≡ u + d → pos u -ℤ pos d ≡ pos 1 → n % 2 ≡ 1
odd_sum n u d e h = let more : u ≡ d + 1 = omega (arith, ints) in omega arith
