-- Points inside a list.
use Rattle.std.specs.Prelude.{All, List, [], ◌∷◌, ◌≡◌}
use lib.IntN.{pos, ℤ, ◌*ℤ◌, ◌+ℤ◌}
use Rattle.lists.specs.Member.{In}
use Rattle.plane_lists.specs.Rings.Polygon.{Polygon, polygon_edges}
use Rattle.plane.specs.Edge.{Edge}
use Rattle.plane.specs.RayCrossing.{IsOffEdge}
use Rattle.plane.specs.Sign.{Minus, Plus, sign}
use Rattle.plane.specs.Vector.{Vector, east}
use Rattle.plane_lists.specs.Lists.EdgeList.{winding_number}
use Rattle.plane_lists.specs.Lists.ScaledEdges.{scaled_edges}

-- p is on no edge, and the edges go once round it
pub record IsInside (es : List Edge) (p : Vector) : Type 0 where
  pub off : All (IsOffEdge p) es
  pub once : winding_number east p es ≡ pos 1

-- each point between p and q, (a * p + b * q) / (a + b), is inside
abbrev pub IsStepInside : List Edge → Vector → Vector → Type 0
IsStepInside es p q =
    (a b : ℤ) → (sign a ≡ Minus → ⊥) → (sign b ≡ Minus → ⊥) → sign (a +ℤ b) ≡ Plus →
    IsInside (scaled_edges (a +ℤ b) es) (record { x = a *ℤ p.x +ℤ b *ℤ q.x; y = a *ℤ p.y +ℤ b *ℤ q.y })

-- each point of the polygonal line is inside
abbrev pub IsLineInside : List Edge → Vector → List Vector → Vector → Type 0
IsLineInside es p [] q = IsStepInside es p q
IsLineInside es p (c ∷ cs) q = IsStepInside es p c × IsLineInside es c cs q

-- p is on no edge, and the edges don't go round it
pub record IsOutside (es : List Edge) (p : Vector) : Type 0 where
  pub off : All (IsOffEdge p) es
  pub none : winding_number east p es ≡ pos 0

abbrev pub PartsInside : List Edge → Vector → Vector → Type 0
PartsInside es p q = IsInside es p × IsOutside es q

-- one of the polygons has the points p.x / k, p.y / k and q.x / k, q.y / k inside
pub record AreInOne (k : ℤ) (gs : List Polygon) (p q : Vector) : Type 0 where
  pub polygon : Polygon
  pub member : In polygon gs
  pub first : IsInside (scaled_edges k (polygon_edges polygon)) p
  pub second : IsInside (scaled_edges k (polygon_edges polygon)) q
