-- The odd side of a conflict-free list that is even at points, as statements.
use Rattle.std.specs.Prelude.{All, List, not, true, ◌%◌, ◌+◌, ◌≡◌}
use lib.IntN.{pos}
use Rattle.plane.specs.Edge.{Edge, ends_at, other_end, segment_of}
use Rattle.plane.specs.RayCrossing.{IsOffEdge}
use Rattle.plane.specs.Vector.{Vector, east, from_to, same_point}
use Rattle.plane_lists.specs.Lists.ConflictFree.{IsConflictFree, others}
use Rattle.plane_lists.specs.Lists.EdgeList.{IsBalanced, IsEvenAtPoints, crossing_count, winding_number}
use Rattle.lists.specs.Member.{In}
use Rattle.plane_lists.specs.Lists.Node.{away, spokes_in}
use Rattle.plane_lists.specs.Lists.OddSide.{directed, directed_edge, runs_up_by_odd_side}
use Rattle.plane_lists.specs.Lists.Parity.{is_even}
use Rattle.plane_lists.specs.Lists.Ring.{segments_of}
use Rattle.plane_lists.specs.Lists.Sided.{IsSided}

-- no edge of a conflict-free list has an end of another one inside
abbrev pub EndsAreOff : Type 0
EndsAreOff =
    (v : Vector) (s : Edge) (es : List Edge) → IsConflictFree es → In s es → ends_at v s ≡ true →
    All (IsOffEdge v) (away v es)

-- an edge runs up exactly if the ray along it from its lower end, past the edges that end there, crosses an odd number of edges
abbrev pub RunsUpByRayUp : Type 0
RunsUpByRayUp =
    (s : Edge) (es : List Edge) → IsConflictFree es → IsEvenAtPoints es → In s es →
    runs_up_by_odd_side es s ≡ not (is_even (crossing_count (from_to s.from s.to) s.from (away s.from es)))

-- it runs up exactly if the ray back along it from its upper end crosses an even number
abbrev pub RunsUpByRayDown : Type 0
RunsUpByRayDown =
    (s : Edge) (es : List Edge) → IsConflictFree es → IsEvenAtPoints es → In s es →
    runs_up_by_odd_side es s ≡ is_even (crossing_count (from_to s.to s.from) s.to (away s.to es))

-- An edge at v leaves it exactly if a number is even: the edges right of v, and the other edges at v in the sector from east to it.
abbrev pub LeavesByCount : Type 0
LeavesByCount =
    (v : Vector) (s : Edge) (es : List Edge) → IsConflictFree es → IsEvenAtPoints es → In s es →
    ends_at v s ≡ true →
    same_point v (directed_edge es s).from
    ≡ is_even (crossing_count east v (away v es) + spokes_in east (from_to v (other_end v s)) v (others s es))

-- at each point as many directed edges leave as enter
abbrev pub DirectedIsBalanced : Type 0
DirectedIsBalanced = (es : List Edge) → IsConflictFree es → IsEvenAtPoints es → IsBalanced (directed es)

-- the winding number of the directed list is its parity, everywhere
abbrev pub DirectedWindsByParity : Type 0
DirectedWindsByParity =
    (p : Vector) (es : List Edge) → IsConflictFree es → IsEvenAtPoints es →
    winding_number east p (directed es) ≡ pos (crossing_count east p es % 2)

-- the odd side gives a sided list
abbrev pub DirectedIsSided : Type 0
DirectedIsSided = (es : List Edge) → IsConflictFree es → IsEvenAtPoints es → IsSided (directed es)

-- each sided list has the directions of the odd side
abbrev pub SidedIsDirected : Type 0
SidedIsDirected =
    (es : List Edge) → IsSided es → (e : Edge) → In e es → directed_edge (segments_of es) (segment_of e) ≡ e
