-- The laws of multiplied lists, as statements.
use Rattle.std.specs.Prelude.{List, ℕ, pos, ℤ, ◌*◌, ◌≡◌, ◌↔◌}
use Rattle.plane.specs.Scale.{scaled_point}
use Rattle.plane.specs.Vector.{Vector, east}
use Rattle.plane_lists.specs.Lists.EdgeList.{crossing_count, winding_number}
use Rattle.lists.specs.Member.{In}
use Rattle.plane_lists.specs.Lists.ScaledEdges.{scaled_edges}
use Rattle.plane_lists.specs.Lists.Sided as winding
use Rattle.osm_geom.specs.declared.edge.Edge.{Edge}
use Rattle.osm_geom.specs.Point.{den_of}
use Rattle.osm_geom.specs.InPlane.Multiple.{IsCommon, edges_times, product_of_denominators, whole_edges}
use Rattle.osm_geom.specs.InPlane.Sided.{IsSided, count_at, signed_count_at}

-- all points of the list are lattice points
abbrev pub IsLattice : List Edge → Type 0
IsLattice es = (e : Edge) → In e es → (den_of e.from ≡ 1) × (den_of e.to ≡ 1)

abbrev pub LatticeEdgesAreWhole : Type 0
LatticeEdgesAreWhole = (es : List Edge) → IsLattice es → whole_edges es ≡ edges_times 1 es

abbrev pub LatticeIsSided : Type 0
LatticeIsSided = (es : List Edge) → IsLattice es → IsSided es ↔ winding.IsSided (edges_times 1 es)

abbrev pub MultipleOfMultiple : Type 0
MultipleOfMultiple = (k m : ℕ) (es : List Edge) → IsCommon k es → edges_times (k * m) es ≡ scaled_edges (pos m) (edges_times k es)

-- every list has a common multiple: the product of all denominators is one
abbrev pub CommonDenIsCommon : Type 0
CommonDenIsCommon = (es : List Edge) → IsCommon (product_of_denominators es) es

-- a list is sided exactly if it is in the plane, multiplied by any common multiple
abbrev pub SidedAtEachMultiple : Type 0
SidedAtEachMultiple = (k : ℕ) (es : List Edge) → IsCommon k es → IsSided es ↔ winding.IsSided (edges_times k es)

-- and it has the same counts there, at the points p.x / q, p.y / q
abbrev pub CountAtEachMultiple : Type 0
CountAtEachMultiple =
    (k : ℕ) (es : List Edge) → IsCommon k es → (q : ℤ) (p : Vector) →
    count_at q p es ≡ crossing_count east (scaled_point (pos k) p) (scaled_edges q (edges_times k es))

abbrev pub SignedCountAtEachMultiple : Type 0
SignedCountAtEachMultiple =
    (k : ℕ) (es : List Edge) → IsCommon k es → (q : ℤ) (p : Vector) →
    signed_count_at q p es ≡ winding_number east (scaled_point (pos k) p) (scaled_edges q (edges_times k es))
