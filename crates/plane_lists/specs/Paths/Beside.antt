-- Points beside an edge.
use Rattle.std.specs.Prelude.{All, List, false, ℕ, ◌≡◌}
use Rattle.std.specs.List.{count_by}
use lib.IntN.{pos, ℤ, ◌+ℤ◌}
use Rattle.lists.specs.Member.{In}
use Rattle.plane_lists.specs.Paths.Line.{IsApart, Joined}
use Rattle.plane.specs.Edge.{Edge, same_edge}
use Rattle.plane.specs.FreeSegment.{IsBetween}
use Rattle.plane.specs.RayCrossing.{IsOffEdge}
use Rattle.plane.specs.Scale.{scaled_edge, scaled_point}
use Rattle.plane.specs.Sign.{Plus, sign}
use Rattle.plane.specs.Vector.{Vector, east, orient}
use Rattle.plane_lists.specs.Lists.EdgeList.{winding_number}
use Rattle.plane_lists.specs.Lists.ScaledEdges.{scaled_edges}

-- p is left of the edge e, and the step from p to a point strictly inside e meets no other edge of the list
pub record IsLeftBeside (es : List Edge) (e : Edge) (p : Vector) : Type 0 where
  pub foot : Vector
  pub inside : IsBetween e.from e.to foot
  pub left : orient e.from e.to p ≡ Plus
  pub free : (f : Edge) → In f es → same_edge e f ≡ false → IsApart p foot f

-- some point with rational coordinates is left beside both edges
pub record AreBeside (es : List Edge) (e f : Edge) : Type 0 where
  pub multiple : ℤ
  pub positive : sign multiple ≡ Plus
  pub point : Vector
  pub beside_first : IsLeftBeside (scaled_edges multiple es) (scaled_edge multiple e) point
  pub beside_second : IsLeftBeside (scaled_edges multiple es) (scaled_edge multiple f) point

-- p is joined to a point left beside the edge e
pub record ReachesEdge (es : List Edge) (p : Vector) (e : Edge) : Type 0 where
  pub multiple : ℤ
  pub positive : sign multiple ≡ Plus
  pub point : Vector
  pub joined : Joined (scaled_edges multiple es) (scaled_point multiple p) point
  pub beside : IsLeftBeside (scaled_edges multiple es) (scaled_edge multiple e) point

-- how often the edge is in the list
abbrev pub times_in : Edge → List Edge → ℕ
times_in e es = count_by (same_edge e) es

-- p and q are on no edge, and the edges wind n times more round p than round q
pub record WindsMore (es : List Edge) (p q : Vector) (n : ℕ) : Type 0 where
  pub off_first : All (IsOffEdge p) es
  pub off_second : All (IsOffEdge q) es
  pub more : winding_number east p es ≡ winding_number east q es +ℤ pos n
