-- Walks, left neighbours and polygons of a sided list, as statements.
use Rattle.std.specs.Prelude.{List, false, true, ◌↔◌, ◌∷◌, ◌≡◌}
use Rattle.plane_lists.specs.Rings.Polygon.{ArePolygonsOfRings, IsPolygon, Polygon, polygon_edges}
use Rattle.plane_lists.specs.Rings.Walk.{IsSuccessor, IsWalk}
use Rattle.plane.specs.Edge.{Edge, is_horizontal, is_rising}
use Rattle.lists.specs.Member.{In}
use Rattle.plane_lists.specs.Lists.Ring.{IsAnchor, segments_of}
use Rattle.plane_lists.specs.Lists.Sided.{IsSided}
use Rattle.plane_lists.specs.Connected.Earlier.{is_earlier}
use Rattle.plane_lists.specs.Connected.Linked.{IsAcross, Linked}
use Rattle.plane_lists.specs.OneRingList.RingListOf.{IsRingListOf}

-- ---- walks and polygons

-- polygons that each have an edge of one walk have one outer ring
abbrev pub WalkHasOneOuterRing : Type 0
WalkHasOneOuterRing =
    (es : List Edge) → IsSided es → (rs : List (List Edge)) → IsRingListOf es rs → (g h : Polygon) →
    IsPolygon rs g → IsPolygon rs h → (w : List Edge) → IsWalk es w → (e f : Edge) → In e w → In f w →
    In e (polygon_edges g) → In f (polygon_edges h) → g.outer ≡ h.outer

-- a polygon that has one edge of a walk has all of its edges
abbrev pub PolygonHasWholeWalks : Type 0
PolygonHasWholeWalks =
    (es : List Edge) → IsSided es → (rs : List (List Edge)) → IsRingListOf es rs → (gs : List Polygon) →
    ArePolygonsOfRings rs gs → (g : Polygon) → In g gs → (w : List Edge) → IsWalk es w → (e f : Edge) → In e w →
    In f w → In e (polygon_edges g) → In f (polygon_edges g)

-- the successor of an edge of a polygon is its successor in the polygon
abbrev pub PolygonHasSuccessors : Type 0
PolygonHasSuccessors =
    (es : List Edge) → IsSided es → (rs : List (List Edge)) → IsRingListOf es rs → (gs : List Polygon) →
    ArePolygonsOfRings rs gs → (g : Polygon) → In g gs → (e f : Edge) → In e (polygon_edges g) →
    IsSuccessor es e f ↔ IsSuccessor (polygon_edges g) e f

-- the rings of a polygon are the ring list of its edges
abbrev pub PolygonIsRingListOf : Type 0
PolygonIsRingListOf =
    (es : List Edge) → IsSided es → (rs : List (List Edge)) → IsRingListOf es rs → (gs : List Polygon) →
    ArePolygonsOfRings rs gs → (g : Polygon) → In g gs → IsRingListOf (polygon_edges g) (g.outer ∷ g.inner)

-- ---- left neighbours

-- an edge that runs up, and not along one height, has a nearest edge on its left, which runs down
abbrev pub LeftNeighbourExists : Type 0
LeftNeighbourExists =
    (es : List Edge) → IsSided es → (e : Edge) → In e es → is_rising e ≡ true → is_horizontal e ≡ false →
    (f : Edge) × IsAcross es e f

-- the walk of that edge begins earlier than the edge that it is left of
abbrev pub LeftNeighbourIsEarlier : Type 0
LeftNeighbourIsEarlier =
    (es : List Edge) → IsSided es → (e f : Edge) → IsAcross es e f → (w : List Edge) → IsWalk es w → In f w →
    (a : Edge) → IsAnchor a (segments_of w) → is_earlier a e ≡ true

-- ---- linked edges

-- any two edges of a polygon are linked
abbrev pub PolygonIsLinked : Type 0
PolygonIsLinked =
    (es : List Edge) → IsSided es → (rs : List (List Edge)) → IsRingListOf es rs → (gs : List Polygon) →
    ArePolygonsOfRings rs gs → (g : Polygon) → In g gs → (e f : Edge) → In e (polygon_edges g) →
    In f (polygon_edges g) → Linked (polygon_edges g) e f

-- in the whole list an edge of a polygon is linked exactly to the edges of the polygon
abbrev pub LinkedIsOnePolygon : Type 0
LinkedIsOnePolygon =
    (es : List Edge) → IsSided es → (rs : List (List Edge)) → IsRingListOf es rs → (gs : List Polygon) →
    ArePolygonsOfRings rs gs → (g : Polygon) → In g gs → (e f : Edge) → In e (polygon_edges g) →
    Linked es e f ↔ In f (polygon_edges g)
