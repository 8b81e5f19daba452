-- A coordinate that isn't whole: its numerator over its denominator, and its range.
use Rattle.std.specs.Prelude.{ℕ, ◌*◌, ◌≤◌, ℤ, pos, ◌*ℤ◌, ◌+ℤ◌, unsigned_abs}

-- the numerator of floor + above / den, over den
abbrev pub part_num : ℤ → ℕ → ℕ → ℤ
part_num floor above den = floor *ℤ pos den +ℤ pos above

-- the denominator of a point at which a segment meets a line of whole coordinate
abbrev pub IsPartDen : ℕ → Type 0
IsPartDen den = (2 ≤ den) × (den ≤ 3_600_000_000)

abbrev pub IsPartNum : ℤ → ℕ → Type 0
IsPartNum num den = unsigned_abs num ≤ 1_800_000_000 * den
