-- Sided lists: the left of every edge is inside.
use Rattle.std.specs.Prelude.{All, List, ◌≡◌, ◌⊎◌}
use lib.IntN.{pos, ℤ}
use Rattle.plane.specs.Edge.{Edge}
use Rattle.plane.specs.RayCrossing.{IsOffEdge}
use Rattle.plane.specs.Sign.{Plus, sign}
use Rattle.plane.specs.Vector.{Vector, east}
use Rattle.plane_lists.specs.Lists.ConflictFree.{IsConflictFree}
use Rattle.plane_lists.specs.Lists.EdgeList.{IsBalanced, winding_number}
use Rattle.plane_lists.specs.Lists.Ring.{segments_of}
use Rattle.plane_lists.specs.Lists.ScaledEdges.{scaled_edges}

-- No two edges share a point that isn't an end of both. As many edges leave each point as enter it.
-- The winding number is 0 or 1 at every point p.x / q, p.y / q off the list.
pub record IsSided (es : List Edge) : Type 0 where
  pub plain : IsConflictFree (segments_of es)
  pub balanced : IsBalanced es
  pub counted :
      (q : ℤ) → sign q ≡ Plus → (p : Vector) → All (IsOffEdge p) (scaled_edges q es) →
      (winding_number east p (scaled_edges q es) ≡ pos 0) ⊎ (winding_number east p (scaled_edges q es) ≡ pos 1)
