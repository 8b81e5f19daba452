-- Points close to a point.
use lib.IntN.{pos, ℤ, ◌*ℤ◌, ◌+ℤ◌, ◌-ℤ◌}
use Rattle.plane.specs.Vector.{Vector}

-- the point r + u / k, if all is multiplied by k: the greater k, the closer to r
abbrev pub near : ℤ → Vector → Vector → Vector
near k r u = record { x = k *ℤ r.x +ℤ u.x; y = k *ℤ r.y +ℤ u.y }

abbrev pub opposite_of : Vector → Vector
opposite_of u = record { x = pos 0 -ℤ u.x; y = pos 0 -ℤ u.y }
