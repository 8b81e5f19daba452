-- How far a location is from an exact point, and which points are far from edges.
use Rattle.std.specs.Prelude.{All, List, unsigned_abs, ℕ, ℤ, pos, ◌*ℤ◌, ◌-ℤ◌, ◌≤◌}
use Rattle.osm_geom.specs.declared.edge.Edge.{Edge}
use Rattle.osm_geom.specs.declared.point.Point.{Point}
use Rattle.osm_geom.specs.Point.{Fraction, x_of, y_of}
use Rattle.osm_lattice.specs.declared.loc.Loc.{Loc}
use Rattle.plane.specs.Vector.{Vector}
use Rattle.osm_geom.specs.InPlane.Multiple.{edges_times}
use Rattle.plane_lists.specs.Rounded.RoundedLaws.{IsBeyondHalf}

-- A whole number is at most a half away from a fraction: its double numerator and that of the number differ by no more than the denominator.
abbrev pub IsWithinHalf : Fraction → ℤ → Type 0
IsWithinHalf f z = unsigned_abs (pos 2 *ℤ f.num -ℤ pos 2 *ℤ (pos f.den *ℤ z)) ≤ f.den

-- a location is at most half a unit away from a point, in x and in y
pub record IsWithinHalfUnit (point : Point) (at : Loc) : Type 0 where
  pub x : IsWithinHalf (x_of point) at.x
  pub y : IsWithinHalf (y_of point) at.y

-- No point of an edge is in the closed unit square round the point p.x / q, p.y / q.
-- Each is more than half a unit away from it, in x or in y. The plane is multiplied by k, which makes the points that edges
-- join whole.
abbrev pub AreBeyondHalf : ℕ → ℤ → Vector → List Edge → Type 0
AreBeyondHalf k q p es = All (IsBeyondHalf k q p) (edges_times k es)
