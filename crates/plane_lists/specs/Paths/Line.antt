-- Polygonal lines that meet no edge of a list.
use Rattle.std.specs.Prelude.{List, [], ◌∷◌, ◌≡◌}
use lib.IntN.{ℤ, ◌*ℤ◌, ◌+ℤ◌}
use Rattle.lists.specs.Member.{In}
use Rattle.plane.specs.Edge.{Edge}
use Rattle.plane.specs.RayCrossing.{IsOffEdge}
use Rattle.plane.specs.Scale.{scaled_edge, scaled_point}
use Rattle.plane.specs.Sign.{Minus, Plus, sign}
use Rattle.plane.specs.Vector.{Vector, cross, from_to}
use Rattle.plane_lists.specs.Lists.ScaledEdges.{scaled_edges}

-- w is strictly on the left of the line through p in the direction d
abbrev pub IsLeftAlong : Vector → Vector → Vector → Type 0
IsLeftAlong d p w = sign (cross d (from_to p w)) ≡ Plus

-- A straight line keeps the step from p to q apart from the edge.
-- Seen from p and from q, both ends of the edge are strictly on the left of its direction. So the step shares no point with
-- the edge, even if p is q.
pub record IsApart (p q : Vector) (e : Edge) : Type 0 where
  pub along : Vector
  pub first_from : IsLeftAlong along p e.from
  pub first_to : IsLeftAlong along p e.to
  pub last_from : IsLeftAlong along q e.from
  pub last_to : IsLeftAlong along q e.to

-- The same in points: no point between p and q is on the edge.
-- Such a point is (a * p + b * q) / (a + b), with weights a and b that aren't negative.
abbrev pub ShareNoPoint : Vector → Vector → Edge → Type 0
ShareNoPoint p q e =
    (a b : ℤ) → (sign a ≡ Minus → ⊥) → (sign b ≡ Minus → ⊥) → sign (a +ℤ b) ≡ Plus →
    IsOffEdge (record { x = a *ℤ p.x +ℤ b *ℤ q.x; y = a *ℤ p.y +ℤ b *ℤ q.y }) (scaled_edge (a +ℤ b) e)

-- the step meets no edge of the list
abbrev pub IsFreeStep : List Edge → Vector → Vector → Type 0
IsFreeStep es p q = (e : Edge) → In e es → IsApart p q e

-- a polygonal line from p by the corners to q, no step of which meets an edge of the list
abbrev pub IsPolyline : List Edge → Vector → List Vector → Vector → Type 0
IsPolyline es p [] q = IsFreeStep es p q
IsPolyline es p (c ∷ cs) q = IsFreeStep es p c × IsPolyline es c cs q

-- p and q are joined by a polygonal line with rational corners that meets no edge: if all is multiplied by one number, the corners are whole points
pub record Joined (es : List Edge) (p q : Vector) : Type 0 where
  pub multiple : ℤ
  pub positive : sign multiple ≡ Plus
  pub corners : List Vector
  pub line : IsPolyline (scaled_edges multiple es) (scaled_point multiple p) corners (scaled_point multiple q)
