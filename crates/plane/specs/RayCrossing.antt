-- How a step from a to b crosses the ray from the origin in a direction d.
-- A point on the line of the ray counts as not above it (half-open rule). So a step that ends there and the next one count
-- once together.
use Rattle.std.specs.Prelude.{Bool, not, true, ℕ, ◌&&◌, ◌||◌, ◌≡◌}
use lib.IntN.{pos, ℤ, ◌-ℤ◌}
use Rattle.plane.specs.Bit.{bit}
use Rattle.plane.specs.Edge.{Edge}
use Rattle.plane.specs.Sign.{Sign, is_minus, is_null, is_plus, sign}
use Rattle.plane.specs.Vector.{Vector, cross, dot, from_to}

-- The step goes from not above the line of the ray to above it, and passes the origin on the ray's side.
-- The signs are those of cross d a, cross d b and cross a b.
abbrev pub crosses_up : Sign → Sign → Sign → Bool
crosses_up s t c = not (is_plus s) && (is_plus t && is_plus c)

-- the step goes from above the line of the ray to not above it, and passes the origin on the ray's side
abbrev pub crosses_down : Sign → Sign → Sign → Bool
crosses_down s t c = is_plus s && (not (is_plus t) && is_minus c)

abbrev pub up_by : Sign → Sign → Sign → ℕ
up_by s t c = bit (crosses_up s t c)

abbrev pub down_by : Sign → Sign → Sign → ℕ
down_by s t c = bit (crosses_down s t c)

-- 1 if the step crosses the ray counterclockwise, else 0
abbrev pub up_crossing : Vector → Vector → Vector → ℕ
up_crossing d a b = up_by (sign (cross d a)) (sign (cross d b)) (sign (cross a b))

-- 1 if the step crosses the ray clockwise, else 0
abbrev pub down_crossing : Vector → Vector → Vector → ℕ
down_crossing d a b = down_by (sign (cross d a)) (sign (cross d b)) (sign (cross a b))

-- the signed crossing: 1, -1 or 0
abbrev pub ray_crossing : Vector → Vector → Vector → ℤ
ray_crossing d a b = pos (up_crossing d a b) -ℤ pos (down_crossing d a b)

-- whether the ray from p in the direction d crosses the edge
abbrev pub is_crossed : Vector → Vector → Edge → Bool
is_crossed d p e =
    let a = from_to p e.from in let b = from_to p e.to in
    crosses_up (sign (cross d a)) (sign (cross d b)) (sign (cross a b))
    || crosses_down (sign (cross d a)) (sign (cross d b)) (sign (cross a b))

-- the origin is not on the closed step: the signs of cross a b and dot a b
abbrev pub off_by : Sign → Sign → Bool
off_by c s = not (is_null c) || is_plus s

-- the origin is not on the closed step from a to b
abbrev pub IsOff : Vector → Vector → Type 0
IsOff a b = off_by (sign (cross a b)) (sign (dot a b)) ≡ true

-- p is not on the closed edge
abbrev pub is_off : Vector → Edge → Bool
is_off p e =
    off_by (sign (cross (from_to p e.from) (from_to p e.to))) (sign (dot (from_to p e.from) (from_to p e.to)))

abbrev pub IsOffEdge : Vector → Edge → Type 0
IsOffEdge p e = IsOff (from_to p e.from) (from_to p e.to)
