-- Closed lists of edges whose points are each rounded, as statements.
use Rattle.std.specs.Prelude.{All, List, ℕ, ◌%◌, ◌<◌, ◌≡◌}
use lib.IntN.{pos, ℤ, ◌*ℤ◌}
use Rattle.plane.specs.Edge.{Edge}
use Rattle.plane.specs.RayCrossing.{IsOffEdge}
use Rattle.plane.specs.Scale.{scaled_edge, scaled_point}
use Rattle.plane.specs.Sign.{Plus, sign}
use Rattle.plane.specs.Vector.{Vector, east}
use Rattle.plane_lists.specs.Rounded.RoundedEdges.{rounded_edges, rounded_point}
use Rattle.plane_lists.specs.Rounded.Square.{HasNoPointNear, IsNear}
use Rattle.plane_lists.specs.Lists.EdgeList.{IsBalanced, crossing_count, winding_number}
use Rattle.plane_lists.specs.Lists.ScaledEdges.{scaled_edges}

-- Rounding moves a point p.x / m, p.y / m by at most a half in x and in y. That is at most m if all is multiplied by 2 m.
abbrev pub RoundedIsNear : Type 0
RoundedIsNear =
    (m : ℕ) → 0 < m → (p : Vector) →
    IsNear (pos m) (scaled_point (pos 2) p) (scaled_point (pos 2) (scaled_point (pos m) (rounded_point m p)))

-- No point of the edge, whose points have denominator m, is in the closed unit square round the point p.x / q, p.y / q.
-- Each is more than half a unit away from it, in x or in y. All is multiplied by 2 q m.
abbrev pub IsBeyondHalf : ℕ → ℤ → Vector → Edge → Type 0
IsBeyondHalf m q p e =
    HasNoPointNear (q *ℤ pos m) (scaled_point (pos 2) (scaled_point (pos m) p)) (scaled_edge (pos 2) (scaled_edge q e))

-- a point p.x / q, p.y / q whose unit square meets no edge is on no edge
abbrev pub BeyondIsOff : Type 0
BeyondIsOff =
    (m : ℕ) → 0 < m → (es : List Edge) (q : ℤ) → sign q ≡ Plus → (p : Vector) → All (IsBeyondHalf m q p) es →
    All (IsOffEdge (scaled_point (pos m) p)) (scaled_edges q es)

-- it is on no rounded edge either
abbrev pub RoundedIsOff : Type 0
RoundedIsOff =
    (m : ℕ) → 0 < m → (es : List Edge) (q : ℤ) → sign q ≡ Plus → (p : Vector) → All (IsBeyondHalf m q p) es →
    All (IsOffEdge p) (scaled_edges q (rounded_edges m es))

-- a closed list and the rounded one go round such a point alike
abbrev pub RoundedWindsAlike : Type 0
RoundedWindsAlike =
    (m : ℕ) → 0 < m → (es : List Edge) → IsBalanced es → (q : ℤ) → sign q ≡ Plus → (p : Vector) → All (IsBeyondHalf m q p) es →
    winding_number east p (scaled_edges q (rounded_edges m es)) ≡ winding_number east (scaled_point (pos m) p) (scaled_edges q es)

-- they have the same parity of crossings
abbrev pub RoundedIsOddAlike : Type 0
RoundedIsOddAlike =
    (m : ℕ) → 0 < m → (es : List Edge) → IsBalanced es → (q : ℤ) → sign q ≡ Plus → (p : Vector) → All (IsBeyondHalf m q p) es →
    crossing_count east p (scaled_edges q (rounded_edges m es)) % 2 ≡ crossing_count east (scaled_point (pos m) p) (scaled_edges q es) % 2
