-- Exact points with at most one fractional coordinate, their multiples in the plane, and their order.
use Rattle.std.specs.Prelude.{ℕ, ◌*◌, ◌≤◌, ℤ, pos, ◌*ℤ◌, unsigned_abs}
use Rattle.std.specs.declared.cmp.Ordering.{Ordering}
use Rattle.plane.specs.Order.{order}
use Rattle.plane.specs.Scale.{scaled_point}
use Rattle.plane.specs.Sign.{Sign}
use Rattle.plane.specs.Vector.{Vector}
use Rattle.osm_geom.specs.declared.point.Part.{Part}
use Rattle.osm_geom.specs.declared.point.Point.{Point}
use Rattle.osm_geom.specs.declared.point.Point.TheVariants.{Lattice, OnVertical, OnHorizontal}
use Rattle.osm_lattice.specs.OrderLaws.{ordering_of}
use Rattle.osm_geom.specs.Part.{part_num}

-- num / den
pub record Fraction : Type 0 where
  pub num : ℤ
  pub den : ℕ

abbrev pub whole : ℤ → Fraction
whole n = record { num = n; den = 1 }

-- a coordinate that isn't whole
abbrev pub fraction_in : Part → Fraction
fraction_in p = record { num = part_num p.floor p.above p.den; den = p.den }

-- the x of a point
abbrev pub x_of : Point → Fraction
x_of (Lattice p) = whole p.x
x_of (OnVertical c y) = whole c
x_of (OnHorizontal x d) = fraction_in x

-- the y of a point
abbrev pub y_of : Point → Fraction
y_of (Lattice p) = whole p.y
y_of (OnVertical c y) = fraction_in y
y_of (OnHorizontal x d) = whole d

-- the least positive number to multiply the plane by, so that p has whole coordinates
abbrev pub den_of : Point → ℕ
den_of p = (x_of p).den * (y_of p).den

-- p in the plane multiplied by that number
abbrev pub whole_of : Point → Vector
whole_of p = record { x = (x_of p).num *ℤ pos (y_of p).den; y = (y_of p).num *ℤ pos (x_of p).den }

-- the order of points, in the plane multiplied by both denominators: Plus if q comes after p
abbrev pub point_order : Point → Point → Sign
point_order p q = order (scaled_point (pos (den_of q)) (whole_of p)) (scaled_point (pos (den_of p)) (whole_of q))

-- the same in Rust's words: by y, then by x
unfoldable pub point_cmp : Point → Point → Ordering
point_cmp p q = ordering_of (point_order p q)

-- p is a longitude and a latitude
abbrev pub IsInWorld : Point → Type 0
IsInWorld p = (unsigned_abs (x_of p).num ≤ 1_800_000_000 * (x_of p).den) × (unsigned_abs (y_of p).num ≤ 900_000_000 * (y_of p).den)
