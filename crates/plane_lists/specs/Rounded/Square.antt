-- Points that are moved a little, and edges that keep away from a square round a point.
use Rattle.std.specs.Prelude.{List, map, ◌≡◌}
use lib.IntN.{ℤ, ◌*ℤ◌, ◌+ℤ◌}
use lib.Signed.{◌≤ℤ◌}
use Rattle.plane.specs.Edge.{Edge}
use Rattle.plane.specs.Scale.{scaled_point}
use Rattle.plane.specs.Sign.{Minus, Plus, sign}
use Rattle.plane.specs.Vector.{Vector}

-- q is at most h away from p in x and in y: it is in the closed square of side 2 h round p
pub record IsNear (h : ℤ) (p q : Vector) : Type 0 where
  pub x_below : q.x ≤ℤ (p.x +ℤ h)
  pub x_above : p.x ≤ℤ (q.x +ℤ h)
  pub y_below : q.y ≤ℤ (p.y +ℤ h)
  pub y_above : p.y ≤ℤ (q.y +ℤ h)

-- the point of the edge with the weights a and b, (a * from + b * to) / (a + b), multiplied by a + b
abbrev pub weighted_point : ℤ → ℤ → Edge → Vector
weighted_point a b e = record { x = a *ℤ e.from.x +ℤ b *ℤ e.to.x; y = a *ℤ e.from.y +ℤ b *ℤ e.to.y }

-- no point of the edge, of weights a and b that aren't negative, is in the closed square of side 2 h round p
abbrev pub HasNoPointNear : ℤ → Vector → Edge → Type 0
HasNoPointNear h p e =
    (a b : ℤ) → (sign a ≡ Minus → ⊥) → (sign b ≡ Minus → ⊥) → sign (a +ℤ b) ≡ Plus →
    IsNear ((a +ℤ b) *ℤ h) (scaled_point (a +ℤ b) p) (weighted_point a b e) → ⊥

-- the edge between the points that its ends are moved to
abbrev pub moved_edge : (Vector → Vector) → Edge → Edge
moved_edge f e = record { from = f e.from; to = f e.to }

abbrev pub moved_edges : (Vector → Vector) → List Edge → List Edge
moved_edges f es = map (moved_edge f) es
