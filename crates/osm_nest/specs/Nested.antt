-- Rings put under those that directly enclose them: the polygons of a ring list.
use Rattle.std.specs.Prelude.{All, AllPairs, List, [], slice_index_or, sum_by, ℕ, ◌∷◌, ◌≡◌}
use Rattle.std.specs.declared.cmp.Ordering.{Ordering}
use Rattle.std.specs.declared.cmp.Ordering.TheVariants.{Less}
use Rattle.std.specs.Ordering.{ordering_then}
use Rattle.plane_lists.specs.Rings.Polygon.{IsPolygon}
use Rattle.osm_geom.specs.declared.edge.Edge.{Edge}
use Rattle.osm_geom.specs.Point.{point_cmp}
use Rattle.osm_nest.specs.declared.polygon.Polygon.{Polygon}
use Rattle.osm_nest.specs.Outer.{IsInner, IsOuter}
use Rattle.osm_nest.specs.Polygons.{polygon_times, rings_of}
use Rattle.osm_nest.specs.RingLists.{all_edges, whole_rings}
use Rattle.lists.specs.Rotated.{IsRotated}
use Rattle.osm_rings.specs.RingList.{AreRingsOf}
use Rattle.osm_rings.specs.Turned.{BeginsLeast}
use Rattle.osm_geom.specs.InPlane.Multiple.{product_of_denominators}

-- Each polygon is an outer ring of the list and inner rings that it directly encloses.
-- Each ring is in exactly one polygon, once.
pub record ArePolygonsOf (rs : List (List Edge)) (polygons : List Polygon) : Type 0 where
  pub each : All (λ polygon. IsPolygon (whole_rings rs) (polygon_times (product_of_denominators (all_edges rs)) polygon)) polygons
  pub once : (f : List Edge → ℕ) → sum_by f (rings_of polygons) ≡ sum_by f rs

-- the first ring of the polygon is outer, by its anchor, and the others are inner
pub record HasKinds (polygon : Polygon) : Type 0 where
  pub outer : IsOuter polygon.outer
  pub inners : All IsInner polygon.inners

-- the cyclic list of edges, beginning with the one that leaves its least node
pub record IsFromLeast (ring begun : List Edge) : Type 0 where
  pub turned : IsRotated ring begun
  pub least : BeginsLeast begun

abbrev pub AreFromLeast : List (List Edge) → List (List Edge) → Type 0
AreFromLeast [] begun = begun ≡ []
AreFromLeast (r ∷ rs) begun = (first : List Edge) × (others : List (List Edge)) × (begun ≡ first ∷ others) × IsFromLeast r first × AreFromLeast rs others

pub record IsPolygonFromLeast (polygon begun : Polygon) : Type 0 where
  pub outer : IsFromLeast polygon.outer begun.outer
  pub inners : AreFromLeast polygon.inners begun.inners

abbrev pub ArePolygonsFromLeast : List Polygon → List Polygon → Type 0
ArePolygonsFromLeast [] begun = begun ≡ []
ArePolygonsFromLeast (p ∷ ps) begun = (first : Polygon) × (others : List Polygon) × (begun ≡ first ∷ others) × IsPolygonFromLeast p first × ArePolygonsFromLeast ps others

-- the order of rings: by the node that the first edge leaves, then by the node that it enters
abbrev pub edge_cmp : Edge → Edge → Ordering
edge_cmp e f = ordering_then (point_cmp e.from f.from) (point_cmp e.to f.to)

abbrev pub BeginsBefore : List Edge → List Edge → Type 0
BeginsBefore r s = (d : Edge) → edge_cmp (slice_index_or r 0 d) (slice_index_or s 0 d) ≡ Less

-- polygons by their outer rings, and in each the inner rings, in order
pub record AreInOrder (polygons : List Polygon) : Type 0 where
  pub outers : AllPairs (λ (p q : Polygon). BeginsBefore p.outer q.outer) polygons
  pub inners : All (λ (p : Polygon). AllPairs BeginsBefore p.inners) polygons

-- the polygons of the rings, in order, each ring beginning at its least node
pub record AreNested (rs : List (List Edge)) (nested : List Polygon) : Type 0 where
  pub polygons : List Polygon
  pub of_rings : ArePolygonsOf rs polygons
  pub begun : ArePolygonsFromLeast polygons nested
  pub in_order : AreInOrder nested

-- the edges are cut into rings, and the rings make these polygons
pub record ArePolygons (edges : List Edge) (polygons : List Polygon) : Type 0 where
  pub rings : List (List Edge)
  pub cut : AreRingsOf edges rings
  pub nested : AreNested rings polygons
