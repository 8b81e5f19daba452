-- The laws of multiplied points, as statements. They hold for each number k that is a multiple of the points' denominators.
use Rattle.std.specs.Prelude.{ℕ, ◌≡◌, ◌≤◌}
use Prim.Native.Nat.{◌∣◌}
use Rattle.plane.specs.Order.{order}
use Rattle.osm_geom.specs.declared.point.Point.{Point}
use Rattle.osm_geom.specs.Point.{den_of, point_order}
use Rattle.osm_geom.specs.InPlane.Multiple.{point_times}

-- points are in the plane's order
abbrev pub PointsAreInOrder : Type 0
PointsAreInOrder =
    (k : ℕ) (p q : Point) → 1 ≤ k → den_of p ∣ k → den_of q ∣ k →
    point_order p q ≡ order (point_times k p) (point_times k q)

-- different points are different in the plane
abbrev pub PointsAreToldApart : Type 0
PointsAreToldApart =
    (k : ℕ) (p q : Point) → 1 ≤ k → den_of p ∣ k → den_of q ∣ k → point_times k p ≡ point_times k q → p ≡ q
