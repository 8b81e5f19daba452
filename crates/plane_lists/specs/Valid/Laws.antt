-- The polygons of the one ring list of a sided list are valid, and rings of a valid polygon share at most one point, as statements.
use Rattle.std.specs.Prelude.{List, false, ◌≡◌}
use lib.IntN.{ℤ}
use Rattle.plane_lists.specs.Rings.Polygon.{ArePolygonsOfRings, IsPolygon, Polygon}
use Rattle.plane_lists.specs.OneRingList.RingListOf.{IsRingListOf}
use Rattle.plane.specs.Edge.{Edge}
use Rattle.plane_lists.specs.Valid.Valid.{HasConnectedInterior, HasInterior, HasValidBoundary, IsValidMultiPolygon, IsValidPolygon, boundary_rings}
use Rattle.plane_lists.specs.Lists.Sided.{IsSided}
use Rattle.plane_lists.specs.Rings.RingList.{IsRingList}
use Rattle.lists.specs.Member.{EachPair, In}
use Rattle.plane.specs.Vector.{Vector}
use Rattle.plane.specs.RayCrossing.{is_off}
use Rattle.plane.specs.Scale.{scaled_edge}
use Rattle.plane.specs.Sign.{Plus, sign}

abbrev pub PolygonsAreValid : Type 0
PolygonsAreValid =
    (es : List Edge) → IsSided es → (rs : List (List Edge)) → IsRingListOf es rs → (gs : List Polygon) →
    ArePolygonsOfRings rs gs → IsValidMultiPolygon gs

-- That the interior is connected doesn't follow from the rest.
-- Two crescents that share both tips are an outline with a hole that touches it twice, and all else holds for that polygon.
-- Its rings are a ring list, but they pass from walk to walk.
abbrev pub ConnectedIsNeeded : Type 0
ConnectedIsNeeded =
    (rs : List (List Edge)) × (g : Polygon) × IsRingList rs × IsPolygon rs g × HasValidBoundary g
    × HasInterior g × (HasConnectedInterior g → ⊥)

-- some edge of the ring leaves the point
abbrev pub IsNode : Vector → List Edge → Type 0
IsNode v r = (e : Edge) × In e r × (e.from ≡ v)

-- any two nodes of both rings are equal
abbrev pub ShareOneNode : List Edge → List Edge → Type 0
ShareOneNode r s = (u v : Vector) → IsNode u r → IsNode u s → IsNode v r → IsNode v s → u ≡ v

-- two rings of one polygon share at most one node
abbrev pub RingsShareOneNode : Type 0
RingsShareOneNode = (g : Polygon) → IsValidPolygon g → EachPair ShareOneNode (boundary_rings g)

-- the point p.x / k, p.y / k is on some edge of the ring
abbrev pub IsOnRing : ℤ → Vector → List Edge → Type 0
IsOnRing k p r = (e : Edge) × In e r × (is_off p (scaled_edge k e) ≡ false)

-- any two points of both rings are equal
abbrev pub ShareOnePoint : List Edge → List Edge → Type 0
ShareOnePoint r s =
    (k : ℤ) → sign k ≡ Plus → (p q : Vector) → IsOnRing k p r → IsOnRing k p s → IsOnRing k q r →
    IsOnRing k q s → p ≡ q

-- since they meet only at nodes, they share at most one point
abbrev pub RingsShareOnePoint : Type 0
RingsShareOnePoint = (g : Polygon) → IsValidPolygon g → EachPair ShareOnePoint (boundary_rings g)
