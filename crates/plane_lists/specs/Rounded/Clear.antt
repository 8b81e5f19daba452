-- Edges that a straight line keeps apart from a square.
use Rattle.std.specs.Prelude.{◌≡◌}
use lib.IntN.{ℤ, ◌+ℤ◌, ◌-ℤ◌}
use Rattle.plane.specs.Edge.{Edge}
use Rattle.plane.specs.Sign.{Plus, sign}
use Rattle.plane.specs.Vector.{Vector, cross, from_to}

-- w is strictly on the left of the line through p in the direction d
abbrev pub IsLeftOf : Vector → Vector → Vector → Type 0
IsLeftOf d p w = sign (cross d (from_to p w)) ≡ Plus

-- w is strictly on the left of the four lines in the direction d through the corners of the square of side 2 h round p
pub record IsLeftOfSquare (h : ℤ) (d p w : Vector) : Type 0 where
  pub upper_right : IsLeftOf d (record { x = p.x +ℤ h; y = p.y +ℤ h }) w
  pub upper_left : IsLeftOf d (record { x = p.x -ℤ h; y = p.y +ℤ h }) w
  pub lower_right : IsLeftOf d (record { x = p.x +ℤ h; y = p.y -ℤ h }) w
  pub lower_left : IsLeftOf d (record { x = p.x -ℤ h; y = p.y -ℤ h }) w

-- a straight line keeps the edge apart from the closed square of side 2 h round p
pub record IsClearOfSquare (h : ℤ) (p : Vector) (e : Edge) : Type 0 where
  pub along : Vector
  pub from_left : IsLeftOfSquare h along p e.from
  pub to_left : IsLeftOfSquare h along p e.to
