-- Rounding doesn't depend on a common factor, as a statement.
use Rattle.std.specs.Prelude.{ℕ, ◌*◌, ◌<◌, ◌≡◌}
use lib.IntN.{pos, ℤ, ◌*ℤ◌}
use Rattle.plane_lists.specs.Rounded.RoundedEdges.{whole_near}

-- (k z) / (k m) is rounded as z / m is
abbrev pub FactorRoundsAlike : Type 0
FactorRoundsAlike = (k m : ℕ) → 0 < k → 0 < m → (z : ℤ) → whole_near (pos k *ℤ z) (k * m) ≡ whole_near z m
