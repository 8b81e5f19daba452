-- Part of a way, as a fraction between 0 and 1.
use Rattle.std.specs.Prelude.{ℕ, ◌≤◌}

abbrev pub IsShare : ℕ → ℕ → Type 0
IsShare above den = (1 ≤ den) × (above ≤ den)
