-- The order of points: by y, then by x.
use lib.IntN.{◌-ℤ◌}
use Rattle.plane.specs.Sign.{Sign, sign, then_sign}
use Rattle.plane.specs.Vector.{Vector}

-- Plus if q comes after p, Null if it is p, Minus if it comes before p
abbrev pub order : Vector → Vector → Sign
order p q = then_sign (sign (q.y -ℤ p.y)) (sign (q.x -ℤ p.x))
