-- What may be nested, as a statement.
use Rattle.std.specs.Prelude.{All, List, true, ℤ, ◌≡◌}
use Rattle.plane.specs.Vector.{Vector}
use Rattle.osm_geom.specs.declared.edge.Edge.{Edge}
use Rattle.osm_nest.specs.declared.polygon.Polygon.{Polygon}
use Rattle.osm_nest.specs.Beside.{is_around}
use Rattle.osm_nest.specs.Cover.{AreSided, CoverAsRings}
use Rattle.osm_nest.specs.Nested.{AreNested, HasKinds}
use Rattle.osm_nest.specs.Outer.{AreConflictFree, IsAnchorOf}
use Rattle.osm_nest.specs.RingLists.{AreRings, all_edges}
use Rattle.osm_geom.specs.WholeSegment.{IsWholeSegment}
use Rattle.osm_rings.specs.RingList.{AreRingsOf}
use Rattle.osm_geom.specs.InPlane.Sided.{IsSided, count_at}

-- the rings of a sided list of edges are rings to be nested
abbrev pub RingsMayBeNested : Type 0
RingsMayBeNested = (es : List Edge) (rs : List (List Edge)) → IsSided es → AreRingsOf es rs → AreRings rs

-- those of edges along whole segments run along whole segments
abbrev pub RingsRunAlongSegments : Type 0
RingsRunAlongSegments = (es : List Edge) (rs : List (List Edge)) → All IsWholeSegment es → AreRingsOf es rs → All (All IsWholeSegment) rs

-- a ring that may be nested has no conflict among its own edges, so it is outer or inner
abbrev pub RingsAreClear : Type 0
RingsAreClear = (rs : List (List Edge)) → AreRings rs → All AreConflictFree rs

-- every list of rings to be nested has its polygons in order
abbrev pub NestingExists : Type 0
NestingExists = (rs : List (List Edge)) → AreRings rs → (polygons : List Polygon) × AreNested rs polygons

-- every polygon of nested rings has an outer ring first and inner ones under it, as their anchors show
abbrev pub NestedHaveKinds : Type 0
NestedHaveKinds = (rs : List (List Edge)) (polygons : List Polygon) → AreRings rs → AreNested rs polygons → All HasKinds polygons

-- an odd number of the outer ring's edges are right of the anchor of each inner ring
abbrev pub IsAroundInners : Polygon → Type 0
IsAroundInners polygon = All (λ (inner : List Edge). (anchor : Edge) → IsAnchorOf anchor inner → is_around anchor polygon.outer ≡ true) polygon.inners

abbrev pub NestedAreAround : Type 0
NestedAreAround = (rs : List (List Edge)) (polygons : List Polygon) → AreRings rs → AreNested rs polygons → All IsAroundInners polygons

-- the edges of each polygon of nested rings are sided
abbrev pub NestedAreSided : Type 0
NestedAreSided = (rs : List (List Edge)) (polygons : List Polygon) → AreRings rs → AreNested rs polygons → AreSided polygons

-- exactly one polygon covers a point at which the parity of the rings is odd, and none covers one at which it is even
abbrev pub NestedCoverAsRings : Type 0
NestedCoverAsRings = (rs : List (List Edge)) (polygons : List Polygon) → AreRings rs → AreNested rs polygons → CoverAsRings rs polygons

-- the rings that a list of edges is cut into count as the list does, at every point
abbrev pub RingsCountAsEdges : Type 0
RingsCountAsEdges = (es : List Edge) (rs : List (List Edge)) → AreRingsOf es rs → (q : ℤ) (p : Vector) → count_at q p (all_edges rs) ≡ count_at q p es
