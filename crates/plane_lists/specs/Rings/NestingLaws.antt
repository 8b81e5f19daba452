-- Outer and inner rings, and which ring encloses which, as statements.
use Rattle.std.specs.Prelude.{Bool, List, false, map, not, ◌&&◌, ◌+◌, ◌≡◌}
use Rattle.std.specs.List.{count_by}
use Rattle.plane_lists.specs.Rings.Nesting.{EnclosesDirectly, IsInnerRing, IsNest, IsNextLeft, IsOuterRing, TellsOuterRings, depth, edges_of, encloses, has_edge, is_outer}
use Rattle.plane_lists.specs.Rings.RingList.{IsRingList}
use Rattle.plane.specs.Bit.{bit}
use Rattle.plane.specs.Edge.{Edge, is_rising, segment_of}
use Rattle.plane.specs.Height.{is_right_above}
use Rattle.lists.specs.Member.{In}
use Rattle.plane_lists.specs.Lists.Parity.{is_even}
use Rattle.plane_lists.specs.Lists.Ring.{IsAnchor, segments_of}

abbrev pub RingListIsNest : Type 0
RingListIsNest = (rs : List (List Edge)) → IsRingList rs → IsNest (map segments_of rs)

-- each ring of a ring list has exactly one anchor
abbrev pub RingHasAnchor : Type 0
RingHasAnchor =
    (rs : List (List Edge)) → IsRingList rs → (r : List Edge) → In r rs →
    (a : Edge) × IsAnchor a (segments_of r) × ((b : Edge) → IsAnchor b (segments_of r) → b ≡ a)

-- a ring of a ring list is outer exactly if its anchor runs down
abbrev pub OuterRunsDown : Type 0
OuterRunsDown =
    (rs : List (List Edge)) → IsRingList rs → (e : Edge) → In e (edges_of rs) →
    is_outer (map segments_of rs) (segment_of e) ≡ not (is_rising e)

-- a ring is outer exactly if an even number of rings enclose it
abbrev pub OuterByDepth : Type 0
OuterByDepth =
    (gs : List (List Edge)) → IsNest gs → (h : List Edge) (s : Edge) → In h gs → IsAnchor s h →
    is_outer gs s ≡ is_even (depth gs s)

-- a ring encloses another exactly if an odd number of its edges are right of the other's anchor
abbrev pub EnclosesByAnchor : Type 0
EnclosesByAnchor =
    (gs : List (List Edge)) → IsNest gs → (g h : List Edge) → In g gs → In h gs → (e : Edge) →
    IsAnchor e h → has_edge g e ≡ false →
    encloses g e ≡ not (is_even (count_by (is_right_above e.from e) g))

-- Of the rings that enclose an outer ring, as many are outer as inner.
-- Of those that enclose an inner ring, one more is outer.
abbrev pub EnclosingRingsBalance : Type 0
EnclosingRingsBalance =
    (rs : List (List Edge)) → IsRingList rs → (outer : List Edge → Bool) →
    TellsOuterRings (map segments_of rs) outer → (h : List Edge) → In h rs → (e : Edge) →
    IsAnchor e (segments_of h) →
    count_by (λ (g : List Edge). encloses g e && outer g) (map segments_of rs)
    ≡ count_by (λ (g : List Edge). encloses g e && not (outer g)) (map segments_of rs) + bit (not (outer (segments_of h)))

-- each inner ring is directly enclosed by an outer ring
abbrev pub DirectEncloserExists : Type 0
DirectEncloserExists =
    (rs : List (List Edge)) → IsRingList rs → (h : List Edge) → In h rs →
    IsInnerRing (map segments_of rs) (segments_of h) →
    (r : List Edge) × In r rs × EnclosesDirectly (map segments_of rs) (segments_of r) (segments_of h)

-- it is directly enclosed by no other
abbrev pub DirectEncloserIsOne : Type 0
DirectEncloserIsOne =
    (rs : List (List Edge)) → IsRingList rs → (h r s : List Edge) → In h rs → In r rs → In s rs →
    IsInnerRing (map segments_of rs) (segments_of h) →
    EnclosesDirectly (map segments_of rs) (segments_of r) (segments_of h) →
    EnclosesDirectly (map segments_of rs) (segments_of s) (segments_of h) → r ≡ s

-- if the ring of the nearest edge left of the anchor of an inner ring is outer, it directly encloses the inner one
abbrev pub LeftNeighbourEncloses : Type 0
LeftNeighbourEncloses =
    (rs : List (List Edge)) → IsRingList rs → (h q : List Edge) → In h rs → In q rs →
    IsInnerRing (map segments_of rs) (segments_of h) → IsOuterRing (map segments_of rs) (segments_of q) →
    (a e : Edge) → IsAnchor a (segments_of h) → In e (segments_of q) →
    IsNextLeft a e (edges_of (map segments_of rs)) →
    EnclosesDirectly (map segments_of rs) (segments_of q) (segments_of h)

-- if the ring of that edge is inner, its direct encloser directly encloses this one too
abbrev pub LeftNeighbourIsEnclosedAlike : Type 0
LeftNeighbourIsEnclosedAlike =
    (rs : List (List Edge)) → IsRingList rs → (h q r : List Edge) → In h rs → In q rs → In r rs →
    IsInnerRing (map segments_of rs) (segments_of h) → IsInnerRing (map segments_of rs) (segments_of q) →
    (a e : Edge) → IsAnchor a (segments_of h) → In e (segments_of q) →
    IsNextLeft a e (edges_of (map segments_of rs)) →
    EnclosesDirectly (map segments_of rs) (segments_of r) (segments_of q) →
    EnclosesDirectly (map segments_of rs) (segments_of r) (segments_of h)
