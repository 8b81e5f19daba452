-- Vectors and points of the plane, with integer coordinates, and their products.
use Rattle.std.specs.Prelude.{Bool, ℕ, ◌&&◌, ◌≡◌}
use Rattle.std.specs.Ordering.{int_eq}
use lib.IntN.{pos, ℤ, ◌*ℤ◌, ◌+ℤ◌, ◌-ℤ◌}
use Rattle.plane.specs.Bit.{bit}
use Rattle.plane.specs.Sign.{Plus, Sign, sign}

pub record Vector : Type 0 where
  pub x : ℤ
  pub y : ℤ

-- the vector from the point p to the point q; also the point q as p sees it
abbrev pub from_to : Vector → Vector → Vector
from_to p q = record { x = q.x -ℤ p.x; y = q.y -ℤ p.y }

-- Plus if b is counterclockwise of a, by less than a half turn
abbrev pub cross : Vector → Vector → ℤ
cross a b = a.x *ℤ b.y -ℤ a.y *ℤ b.x

-- Plus if b is less than a quarter turn from a
abbrev pub dot : Vector → Vector → ℤ
dot a b = a.x *ℤ b.x +ℤ a.y *ℤ b.y

-- a is not the zero vector
abbrev pub IsNonZero : Vector → Type 0
IsNonZero a = sign (dot a a) ≡ Plus

abbrev pub east : Vector
east = record { x = pos 1; y = pos 0 }

-- the side of the line from p to q that r is on: Plus to the left, Null on the line, Minus to the right
abbrev pub orient : Vector → Vector → Vector → Sign
orient p q r = sign (cross (from_to p q) (from_to p r))

abbrev pub same_point : Vector → Vector → Bool
same_point p q = int_eq p.x q.x && int_eq p.y q.y

-- 1 if q is p, else 0
abbrev pub one_at : Vector → Vector → ℕ
one_at p q = bit (same_point p q)
