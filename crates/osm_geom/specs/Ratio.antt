-- The range of a coordinate as a fraction.
use Rattle.std.specs.Prelude.{ℕ, ◌*◌, ◌≤◌, ℤ, unsigned_abs}

abbrev pub IsRatioDen : ℕ → Type 0
IsRatioDen den = (1 ≤ den) × (den ≤ 3_600_000_000)

-- the range of i32, which holds that of longitudes
abbrev pub IsRatioNum : ℤ → ℕ → Type 0
IsRatioNum num den = unsigned_abs num ≤ 2_147_483_648 * den
