-- Points and edges multiplied by a number: a point X/q, Y/q lies to an edge as the point X, Y lies to the edge multiplied by q.
use lib.IntN.{ℤ, ◌*ℤ◌}
use Rattle.plane.specs.Edge.{Edge}
use Rattle.plane.specs.Vector.{Vector}

abbrev pub scaled_point : ℤ → Vector → Vector
scaled_point k p = record { x = k *ℤ p.x; y = k *ℤ p.y }

abbrev pub scaled_edge : ℤ → Edge → Edge
scaled_edge k e = record { from = scaled_point k e.from; to = scaled_point k e.to }
