-- Along a segment that shares only ends with a list, as statements.
use Rattle.std.specs.Prelude.{All, List, ◌%◌, ◌≡◌}
use Rattle.plane.specs.Edge.{Edge}
use Rattle.plane.specs.FreeSegment.{IsBetween, Misses}
use Rattle.plane.specs.RayCrossing.{IsOffEdge}
use Rattle.plane.specs.Vector.{IsNonZero, Vector, from_to}
use Rattle.plane_lists.specs.Lists.ConflictFree.{IsConflictFree, others}
use Rattle.plane_lists.specs.Lists.EdgeList.{IsBalanced, IsEvenAtPoints, crossing_count, winding_number}
use Rattle.lists.specs.Member.{In}
use Rattle.plane_lists.specs.Lists.Node.{away}

-- the parity is the same at all points inside the segment
abbrev pub ParityAlongSegment : Type 0
ParityAlongSegment =
    (d s t p q : Vector) (es : List Edge) → IsNonZero d → IsEvenAtPoints es → All (Misses s t) es →
    IsBetween s t p → IsBetween s t q → crossing_count d p es % 2 ≡ crossing_count d q es % 2

-- the winding number is the same, too
abbrev pub WindingAlongSegment : Type 0
WindingAlongSegment =
    (d s t p q : Vector) (es : List Edge) → IsNonZero d → IsBalanced es → All (Misses s t) es →
    IsBetween s t p → IsBetween s t q → winding_number d p es ≡ winding_number d q es

-- the parity there is that of the ray along the segment from its end s, past the edges that end at s
abbrev pub ParityFromEnd : Type 0
ParityFromEnd =
    (d s t p : Vector) (es : List Edge) → IsNonZero d → IsBetween s t p → IsEvenAtPoints es →
    All (Misses s t) es → All (IsOffEdge s) (away s es) →
    crossing_count d p es % 2 ≡ crossing_count (from_to s t) s (away s es) % 2

-- this parity is the same from both ends
abbrev pub ParityFromBothEnds : Type 0
ParityFromBothEnds =
    (s t : Vector) (es : List Edge) → IsNonZero (from_to s t) → IsNonZero (from_to t s) →
    IsEvenAtPoints es → All (Misses s t) es → All (IsOffEdge s) (away s es) →
    All (IsOffEdge t) (away t es) →
    crossing_count (from_to s t) s (away s es) % 2 ≡ crossing_count (from_to t s) t (away t es) % 2

-- along an edge of a conflict-free list the parity of its others is the same at all inner points
abbrev pub ParityAlongOwnEdge : Type 0
ParityAlongOwnEdge =
    (d : Vector) → IsNonZero d → (s : Edge) (es : List Edge) → IsConflictFree es → IsEvenAtPoints es →
    In s es → (p q : Vector) → IsBetween s.from s.to p → IsBetween s.from s.to q →
    crossing_count d p (others s es) % 2 ≡ crossing_count d q (others s es) % 2
