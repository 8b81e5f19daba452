-- A line of the plane with a direction: the points p with cross along p = level. The kept side is on its left.
use Rattle.std.specs.Prelude.{Bool, ◌||◌}
use lib.IntN.{ℤ, ◌*ℤ◌, ◌-ℤ◌}
use Rattle.plane.specs.Edge.{Edge}
use Rattle.plane.specs.Sign.{Sign, is_plus, sign}
use Rattle.plane.specs.Vector.{Vector, cross, dot, from_to}

pub record Line : Type 0 where
  pub along : Vector
  pub level : ℤ

-- Plus if p is strictly on the kept side, Null if it is on the line, Minus if it is strictly on the other side
abbrev pub side : Line → Vector → Sign
side l p = sign (cross l.along p -ℤ l.level)

-- for points on the line: Plus if q comes after p, Null if it is p, Minus if it comes before p
abbrev pub order_along : Line → Vector → Vector → Sign
order_along l p q = sign (dot l.along (from_to p q))

-- an end of e, and so a point of it, is strictly on the kept side
abbrev pub has_part : Line → Edge → Bool
has_part l e = is_plus (side l e.from) || is_plus (side l e.to)

-- the line in the plane multiplied by k
abbrev pub scaled_line : ℤ → Line → Line
scaled_line k l = record { along = l.along; level = k *ℤ l.level }
