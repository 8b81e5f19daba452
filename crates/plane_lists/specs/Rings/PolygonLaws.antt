-- What the polygons of a ring list cover, as statements.
use Rattle.std.specs.Prelude.{List, ◌≡◌}
use Rattle.std.specs.List.{count_by}
use lib.IntN.{pos, ℤ}
use Rattle.plane_lists.specs.Rings.Cover.{covers}
use Rattle.plane_lists.specs.Rings.Nesting.{edges_of}
use Rattle.plane_lists.specs.Rings.Polygon.{ArePolygonsOfRings, IsPolygon, Polygon, polygon_edges}
use Rattle.plane_lists.specs.Rings.RingList.{IsRingList, scaled_rings}
use Rattle.plane.specs.Bit.{bit}
use Rattle.plane.specs.Edge.{Edge}
use Rattle.plane.specs.Sign.{Plus, sign}
use Rattle.plane.specs.Vector.{Vector, east}
use Rattle.plane_lists.specs.Lists.EdgeList.{winding_number}
use Rattle.plane_lists.specs.Lists.ScaledEdges.{scaled_edges}
use Rattle.plane_lists.specs.Lists.Sided.{IsSided}

-- a polygon goes once round the points that it covers, counterclockwise, and round no others
abbrev pub PolygonWindsByCover : Type 0
PolygonWindsByCover =
    (rs : List (List Edge)) → IsRingList rs → (g : Polygon) → IsPolygon rs g → (p : Vector) →
    winding_number east p (polygon_edges g) ≡ pos (bit (covers (polygon_edges g) p))

-- the same at the point p.x / k, p.y / k
abbrev pub PolygonWindsByCoverAtFractions : Type 0
PolygonWindsByCoverAtFractions =
    (k : ℤ) → sign k ≡ Plus → (rs : List (List Edge)) → IsRingList rs → (g : Polygon) → IsPolygon rs g →
    (p : Vector) →
    winding_number east p (scaled_edges k (polygon_edges g)) ≡ pos (bit (covers (scaled_edges k (polygon_edges g)) p))

-- exactly one of the polygons covers a point that the ring list covers, and none any other point
abbrev pub PolygonsCoverAsRingList : Type 0
PolygonsCoverAsRingList =
    (rs : List (List Edge)) → IsRingList rs → (gs : List Polygon) → ArePolygonsOfRings rs gs → (p : Vector) →
    count_by (λ (g : Polygon). covers (polygon_edges g) p) gs ≡ bit (covers (edges_of rs) p)

-- the same at the point p.x / k, p.y / k
abbrev pub PolygonsCoverAsRingListAtFractions : Type 0
PolygonsCoverAsRingListAtFractions =
    (k : ℤ) → sign k ≡ Plus → (rs : List (List Edge)) → IsRingList rs → (gs : List Polygon) →
    ArePolygonsOfRings rs gs → (p : Vector) →
    count_by (λ (g : Polygon). covers (scaled_edges k (polygon_edges g)) p) gs ≡ bit (covers (scaled_edges k (edges_of rs)) p)

-- a multiplied ring list is a ring list
abbrev pub ScaledIsRingList : Type 0
ScaledIsRingList =
    (k : ℤ) → sign k ≡ Plus → (rs : List (List Edge)) → IsRingList rs → IsRingList (scaled_rings k rs)

-- a polygon is a sided list
abbrev pub PolygonIsSided : Type 0
PolygonIsSided =
    (rs : List (List Edge)) → IsRingList rs → (g : Polygon) → IsPolygon rs g → IsSided (polygon_edges g)

-- every ring list has its polygons
abbrev pub PolygonsExist : Type 0
PolygonsExist = (rs : List (List Edge)) → IsRingList rs → (gs : List Polygon) × ArePolygonsOfRings rs gs
