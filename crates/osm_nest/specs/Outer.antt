-- Outer and inner rings, by the anchor.
use Rattle.std.specs.Prelude.{Bool, List, cond, false, pos, true, ℤ, ◌%◌, ◌-ℤ◌, ◌≡◌}
use Rattle.plane.specs.Edge.{segment_of}
use Rattle.plane.specs.Sign.{Plus, sign}
use Rattle.plane.specs.Vector.{Vector}
use Rattle.plane_lists.specs.Lists.ConflictFree.{IsConflictFree}
use Rattle.lists.specs.Member.{In}
use Rattle.plane_lists.specs.Lists.Ring.{IsAnchor, segments_of}
use Rattle.osm_geom.specs.declared.edge.Edge.{Edge}
use Rattle.osm_geom.specs.Edge.{runs_up}
use Rattle.osm_geom.specs.InPlane.Multiple.{edge_times, product_of_denominators, whole_edges}
use Rattle.osm_geom.specs.InPlane.Sided.{count_at, signed_count_at}

-- no two edges share a point that isn't an end of both
abbrev pub AreConflictFree : List Edge → Type 0
AreConflictFree es = IsConflictFree (segments_of (whole_edges es))

-- e is at the least node of the ring and is the leftmost of the edges that rise from there
pub record IsAnchorOf (e : Edge) (ring : List Edge) : Type 0 where
  pub member : In e ring
  pub anchor : IsAnchor (segment_of (edge_times (product_of_denominators ring) e)) (segments_of (whole_edges ring))

-- the anchor of the ring runs up, or down
pub record AnchorRuns (up : Bool) (ring : List Edge) : Type 0 where
  pub anchor : Edge
  pub is_anchor : IsAnchorOf anchor ring
  pub direction : runs_up anchor ≡ up

-- a ring is outer if its anchor runs down, and inner if it runs up
abbrev pub IsOuter : List Edge → Type 0
IsOuter ring = AnchorRuns false ring

abbrev pub IsInner : List Edge → Type 0
IsInner ring = AnchorRuns true ring

-- at every point p.x / q, p.y / q the signed count of an outer ring is its parity, and that of an inner ring is the negative of it
abbrev pub WindsBySign : Bool → List Edge → Type 0
WindsBySign outer ring =
    (q : ℤ) → sign q ≡ Plus → (p : Vector) →
    signed_count_at q p ring ≡ cond outer (pos (count_at q p ring % 2)) (pos 0 -ℤ pos (count_at q p ring % 2))
