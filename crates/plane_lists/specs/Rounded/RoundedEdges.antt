-- Points with fractions rounded to whole ones: the point X / m, Y / m is the point X, Y if all is multiplied by m.
use Rattle.std.specs.Prelude.{List, ℕ, ◌*◌}
use Rattle.std.specs.Int.{int_div_euclid}
use lib.IntN.{pos, ℤ, ◌*ℤ◌, ◌+ℤ◌}
use Rattle.plane.specs.Edge.{Edge}
use Rattle.plane.specs.Vector.{Vector}
use Rattle.plane_lists.specs.Rounded.Square.{moved_edges}

-- the whole number next to z / m, and a half upwards: floor((2 z + m) / (2 m))
abbrev pub whole_near : ℤ → ℕ → ℤ
whole_near z m = int_div_euclid (pos 2 *ℤ z +ℤ pos m) (pos (2 * m))

-- the whole point next to p.x / m, p.y / m
abbrev pub rounded_point : ℕ → Vector → Vector
rounded_point m p = record { x = whole_near p.x m; y = whole_near p.y m }

abbrev pub rounded_edges : ℕ → List Edge → List Edge
rounded_edges m es = moved_edges (rounded_point m) es
