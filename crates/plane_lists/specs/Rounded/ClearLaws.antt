-- What keeps an edge away from a square, as a statement.
use Rattle.std.specs.Prelude.{◌↔◌}
use lib.IntN.{pos, ℤ}
use lib.Signed.{◌≤ℤ◌}
use Rattle.plane.specs.Edge.{Edge}
use Rattle.plane.specs.Vector.{Vector}
use Rattle.plane_lists.specs.Rounded.Clear.{IsClearOfSquare}
use Rattle.plane_lists.specs.Rounded.Square.{HasNoPointNear}

-- a straight line keeps an edge apart from a square exactly if no point of the edge is in it; the edge may be a point
abbrev pub ClearHasNoPoint : Type 0
ClearHasNoPoint = (h : ℤ) → pos 0 ≤ℤ h → (p : Vector) (e : Edge) → IsClearOfSquare h p e ↔ HasNoPointNear h p e
