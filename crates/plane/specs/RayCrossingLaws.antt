-- The meaning of a ray crossing, as statements.
use Rattle.std.specs.Prelude.{◌↔◌, ◌≡◌}
use lib.IntN.{pos}
use lib.Signed.{◌<ℤ◌, ◌≤ℤ◌}
use Rattle.plane.specs.Bit.{bit}
use Rattle.plane.specs.Edge.{Edge, IsRisingEdge}
use Rattle.plane.specs.Height.{is_left_of}
use Rattle.plane.specs.RayCrossing.{down_crossing, up_crossing}
use Rattle.plane.specs.Vector.{Vector, cross, east, from_to}

-- a step from a to b crosses the ray counterclockwise exactly if cross d a ≤ 0 < cross d b and cross a b > 0
abbrev pub UpCrossingMeans : Type 0
UpCrossingMeans =
    (d a b : Vector) →
    (up_crossing d a b ≡ 1) ↔ ((cross d a ≤ℤ pos 0) × (pos 0 <ℤ cross d b) × (pos 0 <ℤ cross a b))

-- it crosses the ray clockwise exactly if cross d b ≤ 0 < cross d a and cross a b < 0
abbrev pub DownCrossingMeans : Type 0
DownCrossingMeans =
    (d a b : Vector) →
    (down_crossing d a b ≡ 1) ↔ ((cross d b ≤ℤ pos 0) × (pos 0 <ℤ cross d a) × (cross a b <ℤ pos 0))

-- the ray from p to the right crosses a segment exactly if p is in its span and left of it, and then counterclockwise
abbrev pub RightwardRayCrosses : Type 0
RightwardRayCrosses =
    (p : Vector) (t : Edge) → IsRisingEdge t →
    (up_crossing east (from_to p t.from) (from_to p t.to) ≡ bit (is_left_of p t))
    × (down_crossing east (from_to p t.from) (from_to p t.to) ≡ 0)
