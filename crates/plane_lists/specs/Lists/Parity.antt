-- Even numbers.
use Rattle.std.specs.Prelude.{Bool, ℕ, ◌%◌, ◌==◌, ◌≡◌}

abbrev pub IsEven : ℕ → Type 0
IsEven n = n % 2 ≡ 0

abbrev pub is_even : ℕ → Bool
is_even n = n % 2 == 0
