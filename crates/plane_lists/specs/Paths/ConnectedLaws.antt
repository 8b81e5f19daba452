-- The inside of a list whose edges are linked, and of a polygon, is connected, as statements.
use Rattle.std.specs.Prelude.{List, ◌↔◌, ◌≡◌}
use lib.IntN.{ℤ}
use Rattle.plane_lists.specs.Connected.Linked.{Linked}
use Rattle.lists.specs.Member.{In}
use Rattle.plane_lists.specs.Rings.Polygon.{ArePolygonsOfRings, Polygon, polygon_edges}
use Rattle.plane_lists.specs.OneRingList.RingListOf.{IsRingListOf}
use Rattle.plane_lists.specs.Paths.Inside.{AreInOne, IsInside, IsLineInside}
use Rattle.plane_lists.specs.Paths.Line.{IsPolyline, Joined}
use Rattle.plane.specs.Edge.{Edge}
use Rattle.plane.specs.Sign.{Plus, sign}
use Rattle.plane.specs.Vector.{Vector}
use Rattle.plane_lists.specs.Lists.EdgeList.{IsBalanced}
use Rattle.plane_lists.specs.Lists.ScaledEdges.{scaled_edges}
use Rattle.plane_lists.specs.Lists.Sided.{IsSided}

-- a line that meets no edge and begins inside is inside with each of its points
abbrev pub LineStaysInside : Type 0
LineStaysInside =
    (es : List Edge) → IsBalanced es → (p : Vector) (cs : List Vector) (q : Vector) → IsPolyline es p cs q →
    IsInside es p → IsLineInside es p cs q

-- if any two edges of a sided list are linked, any two points p.x / k, p.y / k and q.x / k, q.y / k inside are joined
abbrev pub LinkedInsideIsJoined : Type 0
LinkedInsideIsJoined =
    (es : List Edge) → IsSided es → ((e f : Edge) → In e es → In f es → Linked es e f) → (k : ℤ) →
    sign k ≡ Plus → (p q : Vector) → IsInside (scaled_edges k es) p → IsInside (scaled_edges k es) q →
    Joined (scaled_edges k es) p q

-- the interior of each polygon of the one ring list of a sided list is connected
abbrev pub PolygonIsConnected : Type 0
PolygonIsConnected =
    (es : List Edge) → IsSided es → (rs : List (List Edge)) → IsRingListOf es rs → (gs : List Polygon) →
    ArePolygonsOfRings rs gs → (g : Polygon) → In g gs → (k : ℤ) → sign k ≡ Plus → (p q : Vector) →
    IsInside (scaled_edges k (polygon_edges g)) p → IsInside (scaled_edges k (polygon_edges g)) q →
    Joined (scaled_edges k (polygon_edges g)) p q

-- The interiors of the polygons are the connected parts of the inside of the list.
-- Two points inside are joined exactly if one polygon has both inside.
abbrev pub PolygonsAreParts : Type 0
PolygonsAreParts =
    (es : List Edge) → IsSided es → (rs : List (List Edge)) → IsRingListOf es rs → (gs : List Polygon) →
    ArePolygonsOfRings rs gs → (k : ℤ) → sign k ≡ Plus → (p q : Vector) → IsInside (scaled_edges k es) p →
    IsInside (scaled_edges k es) q → Joined (scaled_edges k es) p q ↔ AreInOne k gs p q
