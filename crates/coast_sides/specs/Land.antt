-- Land.
use Rattle.std.specs.Prelude.{◌≡◌, ◌%◌, List, All, Contains, None, ℤ, pos}
use Rattle.plane.specs.Sign.{Plus, sign}
use Rattle.plane.specs.Vector.{Vector, east}
use Rattle.plane_lists.specs.Lists.EdgeList.{crossing_count}
use Rattle.plane_lists.specs.Lists.ScaledEdges.{scaled_edges}
use Rattle.osm_geom.specs.declared.edge.Edge.{Edge}
use Rattle.osm_geom.specs.WholeSegment.{IsWholeSegment}
use Rattle.osm_lattice.specs.declared.seg.Seg.{Seg}
use Rattle.osm_lattice.specs.Conflict.{conflict_of}
use Rattle.osm_segments.specs.Counts.{AreSurvivors}
use Rattle.osm_sides.specs.Directions.{AreDirected}
use Rattle.osm_sides.specs.Survivors.{plane_edges_of}
use Rattle.osm_geom.specs.InPlane.Sided.{IsSided, signed_count_at}

-- no two of the segments conflict
abbrev pub HaveNoConflicts : List Seg → Type 0
HaveNoConflicts segs = (s t : Seg) → Contains segs s → Contains segs t → conflict_of s t ≡ None

-- the parity of segments at the point p.x / q, p.y / q
abbrev pub parity_at : ℤ → Vector → List Seg → ℤ
parity_at q p segs = pos (crossing_count east p (scaled_edges q (plane_edges_of segs)) % 2)

-- The edges are what is left of the segments once pairs are cancelled, directed by the odd side.
-- Each runs along a whole segment, and they are sided. At every point their signed count is the parity of the segments
-- before cancelling.
pub record IsLand (segs : List Seg) (edges : List Edge) : Type 0 where
  pub survivors : List Seg
  pub left : AreSurvivors segs survivors
  pub directed : AreDirected survivors edges
  pub whole : All IsWholeSegment edges
  pub sided : IsSided edges
  pub parity : (q : ℤ) → sign q ≡ Plus → (p : Vector) → signed_count_at q p edges ≡ parity_at q p segs
