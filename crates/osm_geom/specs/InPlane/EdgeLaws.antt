-- The laws of multiplied edges, as statements: what a carrier says of an edge holds in the plane once it is multiplied.
use Rattle.std.specs.Prelude.{List, ℕ, ◌≡◌}
use Prim.Native.Nat.{◌∣◌}
use Rattle.plane.specs.Edge.{IsRisingEdge, is_rising, segment_of}
use Rattle.plane.specs.Height.{is_in_span, is_right_above, order_above}
use Rattle.plane.specs.Sign.{sign}
use Rattle.plane.specs.Vector.{cross, dot, from_to}
use Rattle.lists.specs.Member.{In}
use Rattle.osm_geom.specs.declared.edge.Edge.{Edge}
use Rattle.osm_geom.specs.declared.point.Point.{Point}
use Rattle.osm_geom.specs.Edge.{direction_of, opposite, runs_up}
use Rattle.osm_geom.specs.JustAbove.{is_right_of, just_above_cmp}
use Rattle.osm_lattice.specs.OrderLaws.{ordering_of}
use Rattle.osm_geom.specs.Point.{den_of}
use Rattle.osm_geom.specs.Span.{spans}
use Rattle.osm_geom.specs.InPlane.OneDirection.{HaveOneDirection}
use Rattle.osm_geom.specs.InPlane.Multiple.{IsCommon, IsWholeAt, edge_times, point_times, step_times}

-- at each common multiple of a list the ends of each of its edges are whole
abbrev pub EachEdgeIsWhole : Type 0
EachEdgeIsWhole = (k : ℕ) (es : List Edge) → IsCommon k es → (e : Edge) → In e es → IsWholeAt k e

-- ---- directions: the step is along the direction that the carrier gives
abbrev pub StepHasDirection : Type 0
StepHasDirection = (k : ℕ) (e : Edge) → IsWholeAt k e → HaveOneDirection (step_times k e) (direction_of e)

-- the way back is in the opposite direction
abbrev pub BackHasOppositeDirection : Type 0
BackHasOppositeDirection =
    (k : ℕ) (e : Edge) → IsWholeAt k e →
    HaveOneDirection (from_to (point_times k e.to) (point_times k e.from)) (opposite (direction_of e))

abbrev pub CrossIsOfDirections : Type 0
CrossIsOfDirections =
    (k : ℕ) (e f : Edge) → IsWholeAt k e → IsWholeAt k f →
    sign (cross (step_times k e) (step_times k f)) ≡ sign (cross (direction_of e) (direction_of f))

abbrev pub DotIsOfDirections : Type 0
DotIsOfDirections =
    (k : ℕ) (e f : Edge) → IsWholeAt k e → IsWholeAt k f →
    sign (dot (step_times k e) (step_times k f)) ≡ sign (dot (direction_of e) (direction_of f))

abbrev pub RunsUpAsRising : Type 0
RunsUpAsRising = (k : ℕ) (e : Edge) → IsWholeAt k e → runs_up e ≡ is_rising (edge_times k e)

-- an edge has two ends, so with its lower end first it is a segment
abbrev pub MultipleHasSegment : Type 0
MultipleHasSegment = (k : ℕ) (e : Edge) → IsWholeAt k e → IsRisingEdge (segment_of (edge_times k e))

-- ---- heights
abbrev pub SpansAsSegment : Type 0
SpansAsSegment =
    (k : ℕ) (e : Edge) (at : Point) → IsWholeAt k e → den_of at ∣ k →
    spans e at ≡ is_in_span (point_times k at) (segment_of (edge_times k e))

-- the order just above a height, by the carriers' lines
abbrev pub JustAboveAsSegments : Type 0
JustAboveAsSegments =
    (k : ℕ) (e f : Edge) (at : Point) → IsWholeAt k e → IsWholeAt k f → den_of at ∣ k →
    just_above_cmp e f at ≡ ordering_of (order_above (point_times k at) (segment_of (edge_times k e)) (segment_of (edge_times k f)))

abbrev pub RightAboveAsSegments : Type 0
RightAboveAsSegments =
    (k : ℕ) (e f : Edge) (at : Point) → IsWholeAt k e → IsWholeAt k f → den_of at ∣ k →
    is_right_above (point_times k at) (segment_of (edge_times k e)) (segment_of (edge_times k f))
    ≡ is_right_of e at f
