-- Walks of a sided list and the rings that they are cut into, as statements.
use Rattle.std.specs.Prelude.{List, map, ◌++◌, ◌∷◌, ◌≡◌}
use Rattle.plane_lists.specs.Rings.Nesting.{EnclosesDirectly, IsInnerRing, IsOuterRing, edges_of}
use Rattle.plane_lists.specs.Rings.RingList.{IsRingList}
use Rattle.lists.specs.Rotated.{IsRotated}
use Rattle.plane_lists.specs.Rings.Walk.{AreCuts, AreWalks, HasSameEdges, IsWalk}
use Rattle.plane.specs.Edge.{Edge}
use Rattle.plane.specs.Vector.{Vector}
use Rattle.plane_lists.specs.Lists.ConflictFree.{IsConflictFree}
use Rattle.plane_lists.specs.Lists.EdgeList.{IsEvenAtPoints}
use Rattle.lists.specs.Member.{EachPair, In}
use Rattle.plane_lists.specs.Lists.Ring.{IsPath, IsRing, segments_of}
use Rattle.plane_lists.specs.Lists.Sided.{IsSided}
use Rattle.plane_lists.specs.OneRingList.RingListOf.{AreSameRings, IsRingListOf, LiesInWalk}
use Rattle.plane_lists.specs.OneRingList.Sees.{sees_even}

-- ---- walks

-- no edge twice
abbrev pub HasNoneTwice : List Edge → Type 0
HasNoneTwice w = EachPair (λ (x y : Edge). x ≡ y → ⊥) w

-- take any edges of the sided list that are even at points: all edges of a walk see them alike
abbrev pub WalkSeesAlike : Type 0
WalkSeesAlike =
    (es : List Edge) → IsSided es → (w : List Edge) → IsWalk es w → (xs : List Edge) →
    ((x : Edge) → In x xs → In x es) → IsConflictFree (segments_of xs) → IsEvenAtPoints (segments_of xs) →
    (e f : Edge) → In e w → In f w → sees_even (segments_of xs) e ≡ sees_even (segments_of xs) f

-- a walk that returns to a point is split there into two closed parts; they share no other point
abbrev pub ClosedPartsShareOnePoint : Type 0
ClosedPartsShareOnePoint =
    (es : List Edge) → IsSided es → (p q : List Edge) → IsWalk es (p ++ q) → HasNoneTwice (p ++ q) →
    (a : Vector) → IsPath a p a → (e f : Edge) → In e p → In f q → e.from ≡ f.from → e.from ≡ a

-- a walk doesn't leave two points P and Q in the order P, Q, P, Q
abbrev pub PointsDoNotAlternate : Type 0
PointsDoNotAlternate =
    (es : List Edge) → IsSided es → (a b c d t : List Edge) (e f g h : Edge) →
    IsWalk es (a ++ ((e ∷ b) ++ ((f ∷ c) ++ ((g ∷ d) ++ (h ∷ t))))) →
    HasNoneTwice (a ++ ((e ∷ b) ++ ((f ∷ c) ++ ((g ∷ d) ++ (h ∷ t))))) →
    e.from ≡ g.from → f.from ≡ h.from → e.from ≡ f.from

-- ---- the ring list

-- two rings, each within one walk, that have an edge in common are one ring
abbrev pub RingsOfWalksAreOne : Type 0
RingsOfWalksAreOne =
    (es : List Edge) → IsSided es → (r s : List Edge) → IsRing r → IsRing s → LiesInWalk es r →
    LiesInWalk es s → (e : Edge) → In e r → In e s → IsRotated r s

-- a sided list has at most one ring list
abbrev pub RingListIsOne : Type 0
RingListIsOne =
    (es : List Edge) → IsSided es → (rs qs : List (List Edge)) → IsRingListOf es rs → IsRingListOf es qs →
    AreSameRings rs qs

-- no two of its rings cross, and each has at least three edges
abbrev pub RingsDoNotCross : Type 0
RingsDoNotCross =
    (es : List Edge) → IsSided es → (rs : List (List Edge)) → IsRingListOf es rs → IsRingList rs

-- Rings that hold the same edges and don't cross may be others, since a ring may pass from one walk to another.
-- For instance, two crescents that share both tips are also an outline with a hole.
abbrev pub WalksAreNeeded : Type 0
WalksAreNeeded =
    (rs : List (List Edge)) × (qs : List (List Edge)) × IsRingList rs × IsRingList qs
    × HasSameEdges (edges_of qs) (edges_of rs) × (AreSameRings rs qs → ⊥)

-- ---- pieces that are cut off walks

-- they are a ring list
abbrev pub CutsAreRingListOf : Type 0
CutsAreRingListOf =
    (es : List Edge) → IsSided es → (ws rs : List (List Edge)) → AreWalks es ws → AreCuts ws rs →
    IsRingListOf es rs

-- they are the same ring list, whatever walks they are cut off and in whatever order
abbrev pub CutsAreOne : Type 0
CutsAreOne =
    (es : List Edge) → IsSided es → (ws vs rs qs : List (List Edge)) → AreWalks es ws → AreCuts ws rs →
    AreWalks es vs → AreCuts vs qs → AreSameRings rs qs

-- ---- nesting

-- rings of two ring lists of a sided list that are one ring are both outer or both inner
abbrev pub KindsAreOne : Type 0
KindsAreOne =
    (es : List Edge) → IsSided es → (rs qs : List (List Edge)) → IsRingListOf es rs → IsRingListOf es qs →
    (r q : List Edge) → In r rs → In q qs → IsRotated r q →
    (IsOuterRing (map segments_of rs) (segments_of r) → IsOuterRing (map segments_of qs) (segments_of q))
    × (IsInnerRing (map segments_of rs) (segments_of r) → IsInnerRing (map segments_of qs) (segments_of q))

-- they directly enclose the same rings
abbrev pub DirectEnclosureIsOne : Type 0
DirectEnclosureIsOne =
    (es : List Edge) → IsSided es → (rs qs : List (List Edge)) → IsRingListOf es rs → IsRingListOf es qs →
    (r q h j : List Edge) → In r rs → In q qs → IsRotated r q → IsRotated h j →
    EnclosesDirectly (map segments_of rs) (segments_of r) (segments_of h) →
    EnclosesDirectly (map segments_of qs) (segments_of q) (segments_of j)
