-- The order in which directions are met when turning clockwise from one, by signs. No public contract cites this.
use Rattle.std.specs.Prelude.{Bool, nat_eq, nat_lt, ℕ, ◌&&◌, ◌||◌}
use Rattle.plane.specs.Sign.{Minus, Null, Plus, Sign, is_minus, sign}
use Rattle.plane.specs.Vector.{Vector, cross, dot}

-- The part of the turn in which a direction is met: below half a turn, at half, above, at a full one.
-- It is given by the signs of dot and cross with the first direction.
abbrev pub part_of_turn : Sign → Sign → ℕ
part_of_turn s Minus = 0
part_of_turn Minus Null = 1
part_of_turn s Plus = 2
part_of_turn s Null = 3

-- a is met before b: by the signs of dot and cross of the first direction with a, with b, and of cross a b
abbrev pub earlier : Sign → Sign → Sign → Sign → Sign → Bool
earlier ax ay bx by k = nat_lt (part_of_turn ax ay) (part_of_turn bx by) || (nat_eq (part_of_turn ax ay) (part_of_turn bx by) && is_minus k)

-- a is met before b when turning clockwise from d; a direction equal to d is met at the full turn
abbrev pub is_met_before : Vector → Vector → Vector → Bool
is_met_before d a b = earlier (sign (dot d a)) (sign (cross d a)) (sign (dot d b)) (sign (cross d b)) (sign (cross a b))
