-- Successors, walks and the rings that are cut off them, as statements.
use Rattle.std.specs.Prelude.{List, [], not, true, ◌≡◌}
use Rattle.plane_lists.specs.Rings.Cover.{covers_edge}
use Rattle.plane_lists.specs.Rings.Nesting.{edges_of}
use Rattle.plane_lists.specs.Rings.RingList.{IsRingList}
use Rattle.plane_lists.specs.Rings.Rotated.{AreRotated}
use Rattle.plane_lists.specs.Rings.Stack.{cut_all, cut_off}
use Rattle.plane_lists.specs.Rings.Walk.{AreCuts, AreWalks, CoversAllOrNone, Cuts, HasSameEdges, IsNextClockwise, IsSuccessor}
use Rattle.plane.specs.Edge.{Edge, ends_at, segment_of}
use Rattle.plane.specs.Vector.{Vector, same_point}
use Rattle.plane_lists.specs.Lists.ConflictFree.{IsConflictFree}
use Rattle.plane_lists.specs.Lists.EdgeList.{IsEvenAtPoints}
use Rattle.lists.specs.Member.{EachPair, In}
use Rattle.plane_lists.specs.Lists.Ring.{IsPath, IsRing, segments_of}
use Rattle.plane_lists.specs.Lists.Sided.{IsSided}

-- round a point of a sided list edges alternately enter and leave
abbrev pub EdgesAlternate : Type 0
EdgesAlternate =
    (es : List Edge) → IsSided es → (v : Vector) (e f : Edge) → In e es → ends_at v e ≡ true →
    IsNextClockwise v e f es → same_point v f.from ≡ not (same_point v e.from)

-- a list that holds neither of two neighbours round a point covers both or none
abbrev pub NeighboursAreCoveredAlike : Type 0
NeighboursAreCoveredAlike =
    (es : List Edge) → IsSided es → (v : Vector) (e f : Edge) → In e es → ends_at v e ≡ true →
    IsNextClockwise v e f es → (rs : List Edge) → ((x : Edge) → In x rs → In x es) →
    IsConflictFree (segments_of rs) → IsEvenAtPoints (segments_of rs) → (In e rs → ⊥) → (In f rs → ⊥) →
    covers_edge (segments_of rs) (segment_of e) ≡ covers_edge (segments_of rs) (segment_of f)

-- each edge has a successor
abbrev pub SuccessorExists : Type 0
SuccessorExists = (es : List Edge) → IsSided es → (e : Edge) → In e es → (f : Edge) × IsSuccessor es e f

-- it has at most one successor
abbrev pub SuccessorIsOne : Type 0
SuccessorIsOne =
    (es : List Edge) → IsSided es → (e f g : Edge) → In e es → IsSuccessor es e f → IsSuccessor es e g →
    f ≡ g

-- it leaves the point that its edge enters
abbrev pub SuccessorLeaves : Type 0
SuccessorLeaves =
    (es : List Edge) → IsSided es → (e f : Edge) → In e es → IsSuccessor es e f → e.to ≡ f.from

-- no edge is the successor of two
abbrev pub SuccessorIsOneToOne : Type 0
SuccessorIsOneToOne =
    (es : List Edge) → IsSided es → (d e f : Edge) → In d es → In e es → IsSuccessor es d f →
    IsSuccessor es e f → d ≡ e

-- the edges of a sided list are split into walks
abbrev pub WalksExist : Type 0
WalksExist = (es : List Edge) → IsSided es → (ws : List (List Edge)) × AreWalks es ws

-- each piece that is cut off the walks is a ring, of edges of one walk
abbrev pub PieceIsRingOfOneWalk : Type 0
PieceIsRingOfOneWalk =
    (es : List Edge) → IsSided es → (ws rs : List (List Edge)) → AreWalks es ws → AreCuts ws rs →
    (r : List Edge) → In r rs → IsRing r × ((w : List Edge) × In w ws × ((x : Edge) → In x r → In x w))

-- the pieces together hold each edge once
abbrev pub PiecesHoldEachEdge : Type 0
PiecesHoldEachEdge =
    (es : List Edge) → IsSided es → (ws rs : List (List Edge)) → AreWalks es ws → AreCuts ws rs →
    HasSameEdges (edges_of rs) es

-- each of two pieces covers all edges of the other or none
abbrev pub PiecesCoverAllOrNone : Type 0
PiecesCoverAllOrNone =
    (es : List Edge) → IsSided es → (ws rs : List (List Edge)) → AreWalks es ws → AreCuts ws rs →
    EachPair (λ (r s : List Edge). CoversAllOrNone r s × CoversAllOrNone s r) rs

-- the pieces are a ring list
abbrev pub PiecesAreRingList : Type 0
PiecesAreRingList =
    (es : List Edge) → IsSided es → (ws rs : List (List Edge)) → AreWalks es ws → AreCuts ws rs →
    IsRingList rs

-- the stack cuts each closed path into such pieces
abbrev pub StackCuts : Type 0
StackCuts = (a : Vector) (w : List Edge) → IsPath a w a → Cuts w (cut_off [] w)

-- what it cuts off the walks is a ring list
abbrev pub StackGivesRingList : Type 0
StackGivesRingList =
    (es : List Edge) → IsSided es → (ws : List (List Edge)) → AreWalks es ws → IsRingList (cut_all ws)

-- every sided list has a ring list
abbrev pub RingListExists : Type 0
RingListExists =
    (es : List Edge) → IsSided es → (rs : List (List Edge)) × IsRingList rs × HasSameEdges (edges_of rs) es

-- a ring list stays one if its rings begin at other edges
abbrev pub RotatedIsRingList : Type 0
RotatedIsRingList = (rs qs : List (List Edge)) → AreRotated rs qs → IsRingList rs → IsRingList qs
