-- The ring lists of a list of edges.
use Rattle.std.specs.Prelude.{List, sum_by, ℕ, ◌≡◌}
use Rattle.lists.specs.Member.{In}
use Rattle.plane_lists.specs.OneRingList.RingListOf.{LiesInWalk}
use Rattle.osm_geom.specs.declared.edge.Edge.{Edge}
use Rattle.osm_rings.specs.Ring.{IsRing}
use Rattle.osm_geom.specs.InPlane.Multiple.{edges_times, product_of_denominators, whole_edges}

-- the edges of the rings are those of the list, equally often: every sum over them is that over the list
abbrev pub HoldTheEdges : List Edge → List (List Edge) → Type 0
HoldTheEdges es rs = (f : Edge → ℕ) → sum_by (λ r. sum_by f r) rs ≡ sum_by f es

-- rings that hold each edge once, each within one walk of successors
pub record AreRingsOf (es : List Edge) (rs : List (List Edge)) : Type 0 where
  pub edges : HoldTheEdges es rs
  pub walks : (r : List Edge) → In r rs → LiesInWalk (whole_edges es) (edges_times (product_of_denominators es) r)
  pub ring : (r : List Edge) → In r rs → IsRing r
