-- Valid polygons in the sense of Simple Features (OGC 06-103r4, ISO 19125-1): LinearRing, Polygon and MultiPolygon.
--
-- A ring is a list of edges. A polygon is a record of its outer ring and its inner rings, which are the holes. Edges run
-- between points with whole coordinates. The statements are about all points with rational coordinates. The point (p.x / k,
-- p.y / k), where k is positive, lies to the edges as the whole point p lies to the edges multiplied by k.
use Rattle.std.specs.Prelude.{All, Bool, List, false, length, map, true, ℕ, ◌<◌, ◌∷◌, ◌↔◌, ◌≡◌, ◌≤◌, ◌⊎◌}
use Rattle.std.specs.List.{count_by}
use lib.IntN.{pos, ℤ, ◌-ℤ◌}
use Rattle.lists.specs.Member.{EachPair, In}
use Rattle.plane_lists.specs.Rings.Cover.{covers}
use Rattle.plane_lists.specs.Rings.Nesting.{edges_of}
use Rattle.plane_lists.specs.Rings.Polygon.{Polygon, polygon_edges}
use Rattle.plane_lists.specs.Rings.RingList.{AreUncrossed}
use Rattle.plane_lists.specs.Paths.Inside.{AreInOne, IsInside, IsOutside, PartsInside}
use Rattle.plane_lists.specs.Paths.Line.{Joined}
use Rattle.plane_lists.specs.Paths.Near.{near, opposite_of}
use Rattle.plane.specs.Bit.{bit}
use Rattle.plane.specs.Edge.{Edge, ends_at}
use Rattle.plane.specs.FreeSegment.{IsBetween}
use Rattle.plane.specs.RayCrossing.{IsOffEdge, is_off}
use Rattle.plane.specs.Scale.{scaled_edge, scaled_point}
use Rattle.plane.specs.Sign.{Plus, sign}
use Rattle.plane.specs.Vector.{Vector, cross, east, from_to}
use Rattle.plane_lists.specs.Lists.EdgeList.{winding_number}
use Rattle.plane_lists.specs.Lists.Ring.{IsRing}
use Rattle.plane_lists.specs.Lists.ScaledEdges.{scaled_edges}

-- ---- LinearRing: a line that is closed and simple

-- a point that is on both edges is an end of both
abbrev pub MeetAtEnds : Edge → Edge → Type 0
MeetAtEnds e f =
    (k : ℤ) → sign k ≡ Plus → (p : Vector) → is_off p (scaled_edge k e) ≡ false →
    is_off p (scaled_edge k f) ≡ false → (ends_at p (scaled_edge k e) ≡ true) × (ends_at p (scaled_edge k f) ≡ true)

pub record IsLinearRing (r : List Edge) : Type 0 where
  pub long : 3 ≤ length r
  -- each edge begins where the one before it ends, the first where the last ends; no node is left twice
  pub closed : IsRing r
  -- edges share no points but ends
  pub simple : EachPair MeetAtEnds r

-- ---- Polygon: its points

-- the outer ring and the holes
abbrev pub boundary_rings : Polygon → List (List Edge)
boundary_rings g = g.outer ∷ g.inner

-- the ring has the point inside: the ray from there to the east crosses the ring an odd number of times
abbrev pub has_inside : ℤ → Vector → List Edge → Bool
has_inside k p r = covers (scaled_edges k r) p

-- how many of the holes have the point inside
abbrev pub holes_round : ℤ → Vector → Polygon → ℕ
holes_round k p g = count_by (has_inside k p) g.inner

-- the point is on none of the rings
abbrev pub IsOffRings : ℤ → Vector → Polygon → Type 0
IsOffRings k p g = All (IsOffEdge p) (scaled_edges k (polygon_edges g))

-- the interior: the points off the rings that all rings together wind round once
abbrev pub IsInterior : ℤ → Vector → Polygon → Type 0
IsInterior k p g = IsInside (scaled_edges k (polygon_edges g)) p

-- the exterior: the points off the rings that they don't wind round
abbrev pub IsExterior : ℤ → Vector → Polygon → Type 0
IsExterior k p g = IsOutside (scaled_edges k (polygon_edges g)) p

-- some polygonal line from one point to the other meets none of the rings
abbrev pub AreJoinedOff : Polygon → ℤ → Vector → Vector → Type 0
AreJoinedOff g k p q = Joined (scaled_edges k (polygon_edges g)) p q

-- ---- Polygon: what is asserted of its boundary

-- The point is in the interior: then the outer ring has it inside and no hole has.
-- Or it is in the exterior: then one hole has it inside if the outer ring has, and otherwise none has.
abbrev pub LiesByRings : ℤ → Vector → Polygon → Type 0
LiesByRings k p g =
    (IsInterior k p g × (has_inside k p g.outer ≡ true) × (holes_round k p g ≡ 0))
    ⊎ (IsExterior k p g × (holes_round k p g ≡ bit (has_inside k p g.outer)))

-- Two rings share no points but nodes of both, which are finitely many.
-- They don't cross there: at each node, an even number of edges of one ring lies between two edges of the other.
pub record MeetOnlyAtPoints (r s : List Edge) : Type 0 where
  pub at_ends : (e f : Edge) → In e r → In f s → MeetAtEnds e f
  pub uncrossed : AreUncrossed r s

-- The inside is left of the edge, all along, and the outside right of it.
-- Take a point r / q strictly inside the edge, and a direction u to its left. From some n on, (r + u / n) / q is inside and
-- (r - u / n) / q is outside.
abbrev pub HasInsideOnLeft : List Edge → Edge → Type 0
HasInsideOnLeft es e =
    (q : ℤ) → sign q ≡ Plus → (r u : Vector) → IsBetween (scaled_point q e.from) (scaled_point q e.to) r →
    sign (cross (from_to e.from e.to) u) ≡ Plus →
    (m : ℕ) × ((n : ℕ) → m < n → PartsInside (scaled_edges (pos n) (scaled_edges q es)) (near (pos n) r u) (near (pos n) r (opposite_of u)))

-- assertions (a) to (d) and (f); (e) follows below
pub record HasValidBoundary (g : Polygon) : Type 0 where
  -- (a) a Polygon is topologically closed: nothing is left to assert, since its points are its interior and its rings.
  -- (b) its boundary consists of linear rings, one exterior and the others interior
  pub linear_rings : (r : List Edge) → In r (boundary_rings g) → IsLinearRing r
  -- the exterior one runs counterclockwise: it winds once round each point that it has inside
  pub outer_counterclockwise :
      (k : ℤ) → sign k ≡ Plus → (p : Vector) →
      winding_number east p (scaled_edges k g.outer) ≡ pos (bit (has_inside k p g.outer))
  -- the interior ones run clockwise
  pub holes_clockwise :
      (h : List Edge) → In h g.inner → (k : ℤ) → sign k ≡ Plus → (p : Vector) →
      winding_number east p (scaled_edges k h) ≡ pos 0 -ℤ pos (bit (has_inside k p h))
  -- the interior is the inside of the exterior ring without the holes, which lie in it and apart from one another
  pub outer_less_holes : (k : ℤ) → sign k ≡ Plus → (p : Vector) → IsOffRings k p g → LiesByRings k p g
  -- (c) no two rings cross; they may meet at points, but only as tangents
  pub tangent : EachPair MeetOnlyAtPoints (boundary_rings g)
  -- (d) there are no cut lines, spikes or punctures: a Polygon is the closure of its interior. Each inner point of an edge is a limit of the
  -- interior and of the exterior, and each node is a limit of such points
  pub regular : (e : Edge) → In e (polygon_edges g) → HasInsideOnLeft (polygon_edges g) e
  -- (f) each hole makes one connected part of the exterior. Some point of the exterior is in it
  pub hole_has_points :
      (h : List Edge) → In h g.inner → (k : ℤ) × (p : Vector) × (sign k ≡ Plus) × IsExterior k p g
      × (has_inside k p h ≡ true)
  -- and such a point is joined to those that the hole has inside, and to no others. So the exterior isn't connected
  pub hole_is_part :
      (h : List Edge) → In h g.inner → (k : ℤ) → sign k ≡ Plus → (p q : Vector) → IsOffRings k p g → IsOffRings k q g →
      has_inside k p h ≡ true → AreJoinedOff g k p q ↔ (has_inside k q h ≡ true)

-- ---- Polygon: what is asserted of its interior

-- the interior isn't empty
abbrev pub HasInterior : Polygon → Type 0
HasInterior g = (k : ℤ) × (p : Vector) × (sign k ≡ Plus) × IsInterior k p g

-- (e) the interior is a connected point set: any two of its points are joined within it
abbrev pub HasConnectedInterior : Polygon → Type 0
HasConnectedInterior g =
    (k : ℤ) → sign k ≡ Plus → (p q : Vector) → IsInterior k p g → IsInterior k q g → AreJoinedOff g k p q

pub record IsValidPolygon (g : Polygon) : Type 0 where
  pub boundary : HasValidBoundary g
  pub inhabited : HasInterior g
  pub connected : HasConnectedInterior g

-- ---- MultiPolygon

-- no point is in both interiors
abbrev pub HaveApartInteriors : Polygon → Polygon → Type 0
HaveApartInteriors g h = (k : ℤ) → sign k ≡ Plus → (p : Vector) → IsInterior k p g → IsInterior k p h → ⊥

abbrev pub HaveTouchingBoundaries : Polygon → Polygon → Type 0
HaveTouchingBoundaries g h = (r s : List Edge) → In r (boundary_rings g) → In s (boundary_rings h) → MeetOnlyAtPoints r s

abbrev pub edges_of_polygons : List Polygon → List Edge
edges_of_polygons gs = edges_of (map polygon_edges gs)

pub record IsValidMultiPolygon (gs : List Polygon) : Type 0 where
  pub polygons : (g : Polygon) → In g gs → IsValidPolygon g
  -- (a) the interiors of two polygons don't meet
  pub apart : EachPair HaveApartInteriors gs
  -- (b) the boundaries of two polygons don't cross, and touch at finitely many points
  pub touching : EachPair HaveTouchingBoundaries gs
  -- (c) a MultiPolygon is topologically closed: its points are those of its polygons.
  -- (d) there are no cut lines, spikes or punctures, also where polygons touch: right of each edge is the exterior of all polygons
  pub regular : (e : Edge) → In e (edges_of_polygons gs) → HasInsideOnLeft (edges_of_polygons gs) e
  -- (e) the connected parts of the interior are the interiors of the polygons: two points inside are joined exactly if one
  -- polygon has both. No interior is empty, and no two meet, so there are as many parts as polygons.
  pub parts :
      (k : ℤ) → sign k ≡ Plus → (p q : Vector) → IsInside (scaled_edges k (edges_of_polygons gs)) p →
      IsInside (scaled_edges k (edges_of_polygons gs)) q → Joined (scaled_edges k (edges_of_polygons gs)) p q ↔ AreInOne k gs p q
