-- The ranges of a height and of a line.
use Rattle.std.specs.Prelude.{ℕ, ◌*◌, ◌≤◌, ℤ, unsigned_abs}

-- num / den is a latitude
abbrev pub IsLevel : ℤ → ℕ → Type 0
IsLevel num den = unsigned_abs num ≤ 900_000_000 * den

abbrev pub IsRunInRange : ℤ → Type 0
IsRunInRange run = unsigned_abs run ≤ 3_600_000_000

abbrev pub IsRise : ℤ → Type 0
IsRise rise = unsigned_abs rise ≤ 1_800_000_000
