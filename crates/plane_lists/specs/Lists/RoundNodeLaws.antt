-- Round a point v of a list, no edge of which has v inside, as statements.
use Rattle.std.specs.Prelude.{All, List, ◌%◌, ◌+◌, ◌∷◌, ◌≡◌}
use Rattle.plane.specs.Edge.{Edge}
use Rattle.plane.specs.FreeSegment.{IsBetween, Misses}
use Rattle.plane.specs.RayCrossing.{IsOffEdge}
use Rattle.plane.specs.Sector.{in_sector}
use Rattle.plane.specs.Vector.{IsNonZero, Vector, from_to}
use Rattle.plane_lists.specs.Lists.EdgeList.{IsEvenAtPoints, crossing_count}
use Rattle.plane_lists.specs.Lists.Node.{away, edges_off, ends_in, spokes_in}

-- Take what the rays from v in two directions cross, past the edges that end at v.
-- Its parities differ by the number of edges at v in the sector between. The sector is half-open, so the rays may run along
-- edges.
abbrev pub ParityRoundNode : Type 0
ParityRoundNode =
    (d e v : Vector) (es : List Edge) → IsNonZero d → IsNonZero e → IsEvenAtPoints es →
    All (IsOffEdge v) (away v es) →
    (crossing_count d v (away v es) + crossing_count e v (away v es)) % 2 ≡ spokes_in d e v es % 2

-- the same if the list is even at points only together with an edge from v to w, such as a list without one of its own edges
abbrev pub ParityRoundNodeButEdge : Type 0
ParityRoundNodeButEdge =
    (d e v w : Vector) (es : List Edge) → IsNonZero d → IsNonZero e →
    IsEvenAtPoints (record { from = v; to = w } ∷ es) → All (IsOffEdge v) (away v es) →
    (crossing_count d v (away v es) + crossing_count e v (away v es)) % 2
    ≡ (spokes_in d e v es + in_sector d e (from_to v w)) % 2

-- the parities inside two free segments from v differ by the number of edges at v in the sector between
abbrev pub ParityBetweenSegments : Type 0
ParityBetweenSegments =
    (d v s t p q : Vector) (es : List Edge) → IsNonZero d → IsBetween v s p → IsBetween v t q →
    IsEvenAtPoints es → All (Misses v s) es → All (Misses v t) es → All (IsOffEdge v) (away v es) →
    (crossing_count d p es + crossing_count d q es) % 2 ≡ spokes_in (from_to v s) (from_to v t) v es % 2

-- the same at any point, also inside edges: past the edges that the point is on, and with their ends in the sector
abbrev pub ParityRoundPoint : Type 0
ParityRoundPoint =
    (d e p : Vector) (es : List Edge) → IsNonZero d → IsNonZero e → IsEvenAtPoints es →
    (crossing_count d p (edges_off p es) + crossing_count e p (edges_off p es)) % 2 ≡ ends_in d e p es % 2
