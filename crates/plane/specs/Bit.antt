-- A truth value as a number, so that lists can be counted by sums.
use Rattle.std.specs.Prelude.{Bool, cond, ℕ}

-- 1 for true, 0 for false
abbrev pub bit : Bool → ℕ
bit b = cond b 1 0
