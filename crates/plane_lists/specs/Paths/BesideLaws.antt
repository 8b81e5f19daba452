-- Points beside the edges of a sided list, as statements.
use Rattle.std.specs.Prelude.{List, false, ℕ, ◌<◌, ◌≡◌}
use lib.IntN.{pos, ℤ}
use Rattle.plane_lists.specs.Connected.Linked.{IsAcross}
use Rattle.lists.specs.Member.{In}
use Rattle.plane_lists.specs.Rings.Walk.{IsSuccessor}
use Rattle.plane_lists.specs.Paths.Beside.{AreBeside, IsLeftBeside, ReachesEdge, WindsMore, times_in}
use Rattle.plane_lists.specs.Paths.Inside.{IsInside, PartsInside}
use Rattle.plane_lists.specs.Paths.Line.{Joined}
use Rattle.plane_lists.specs.Paths.Near.{near, opposite_of}
use Rattle.plane.specs.Edge.{Edge, same_edge}
use Rattle.plane.specs.FreeSegment.{IsBetween}
use Rattle.plane.specs.RayCrossing.{IsOffEdge}
use Rattle.plane.specs.Scale.{scaled_edge, scaled_point}
use Rattle.plane.specs.Sign.{Plus, sign}
use Rattle.plane.specs.Vector.{Vector, cross, from_to}
use Rattle.plane_lists.specs.Lists.EdgeList.{IsBalanced}
use Rattle.plane_lists.specs.Lists.ScaledEdges.{scaled_edges}
use Rattle.plane_lists.specs.Lists.Sided.{IsSided}

-- Take a point r / q strictly inside an edge, and a direction u to its left.
-- From some k on, (r + u / k) / q is inside and (r - u / k) / q is outside. So no edge has the inside on both of its sides,
-- or on none.
abbrev pub EdgePartsInside : Type 0
EdgePartsInside =
    (es : List Edge) → IsSided es → (e : Edge) → In e es → (q : ℤ) → sign q ≡ Plus → (r u : Vector) →
    IsBetween (scaled_point q e.from) (scaled_point q e.to) r → sign (cross (from_to e.from e.to) u) ≡ Plus →
    (n : ℕ) × ((k : ℕ) → n < k → PartsInside (scaled_edges (pos k) (scaled_edges q es)) (near (pos k) r u) (near (pos k) r (opposite_of u)))

-- Take a closed list, an edge, and a point r / q strictly inside the edge that no other edge of the list passes.
-- Compare a point close to it on the left, (r + u / k) / q, with one on the right, (r - u / k) / q. From some k on, the list
-- winds more often round the first: as many times more as the edge is in it.
abbrev pub WindsAcrossEdge : Type 0
WindsAcrossEdge =
    (es : List Edge) → IsBalanced es → (e : Edge) (q : ℤ) → sign q ≡ Plus → (r u : Vector) →
    IsBetween (scaled_point q e.from) (scaled_point q e.to) r → sign (cross (from_to e.from e.to) u) ≡ Plus →
    ((f : Edge) → In f es → same_edge e f ≡ false → IsOffEdge r (scaled_edge q f)) →
    (n : ℕ) × ((k : ℕ) → n < k → WindsMore (scaled_edges (pos k) (scaled_edges q es)) (near (pos k) r u) (near (pos k) r (opposite_of u)) (times_in e es))

-- a point left beside an edge is inside
abbrev pub BesideIsInside : Type 0
BesideIsInside =
    (es : List Edge) → IsSided es → (e : Edge) → In e es → (p : Vector) → IsLeftBeside es e p → IsInside es p

-- each edge has such a point
abbrev pub EdgeHasBeside : Type 0
EdgeHasBeside = (es : List Edge) → IsSided es → (e : Edge) → In e es → AreBeside es e e

-- any two points left beside one edge are joined
abbrev pub BesideOneEdgeJoined : Type 0
BesideOneEdgeJoined =
    (es : List Edge) → IsSided es → (e : Edge) → In e es → (p q : Vector) → IsLeftBeside es e p →
    IsLeftBeside es e q → Joined es p q

-- some point is left beside an edge and its successor
abbrev pub SuccessorIsBeside : Type 0
SuccessorIsBeside =
    (es : List Edge) → IsSided es → (e f : Edge) → In e es → IsSuccessor es e f → AreBeside es e f

-- some point is left beside an edge that runs up and the nearest edge on its left
abbrev pub AcrossIsBeside : Type 0
AcrossIsBeside = (es : List Edge) → IsSided es → (e f : Edge) → IsAcross es e f → AreBeside es e f

-- a point inside is joined to a point left beside some edge
abbrev pub InsideReachesEdge : Type 0
InsideReachesEdge =
    (es : List Edge) → IsSided es → (p : Vector) → IsInside es p → (e : Edge) × In e es × ReachesEdge es p e
