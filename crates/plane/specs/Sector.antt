-- The sector between two directions. Angles are turned counterclockwise from d, above 0 and up to a full turn: d itself is the full turn.
use Rattle.std.specs.Prelude.{Bool, false, not, true, ℕ}
use Rattle.plane.specs.Bit.{bit}
use Rattle.plane.specs.Sign.{Minus, Null, Sign, is_plus, sign}
use Rattle.plane.specs.Vector.{Vector, cross, dot}

-- the angle of x is at most a half turn: the signs of dot d x and cross d x
abbrev pub is_in_first_half : Sign → Sign → Bool
is_in_first_half Minus Null = true
is_in_first_half s c = is_plus c

-- Whether x and e are in the first half, and the sign of cross e x.
-- In one half, the angle of x is at most that of e if x is not to the left of e.
abbrev pub angle_at_most : Bool → Bool → Sign → ℕ
angle_at_most true false c = 1
angle_at_most false true c = 0
angle_at_most true true c = bit (not (is_plus c))
angle_at_most false false c = bit (not (is_plus c))

-- the signs of dot d x, cross d x, dot d e, cross d e, cross e x; the zero vector is in no sector
abbrev pub sector_by : Sign → Sign → Sign → Sign → Sign → ℕ
sector_by Null Null t c k = 0
sector_by s b t c k = angle_at_most (is_in_first_half s b) (is_in_first_half t c) k

-- 1 if the angle of x, which is not zero, is at most that of e, and otherwise 0.
-- Then x is in the sector from d counterclockwise to e, without d and with e.
abbrev pub in_sector : Vector → Vector → Vector → ℕ
in_sector d e x = sector_by (sign (dot d x)) (sign (cross d x)) (sign (dot d e)) (sign (cross d e)) (sign (cross e x))
