-- The laws of successors and ring lists, as statements.
-- An edge of the list is taken in the plane multiplied by the common denominator.
use Rattle.std.specs.Prelude.{List, map, ◌≡◌}
use Rattle.plane_lists.specs.Rings.RingList.{IsRingList}
use Rattle.plane_lists.specs.Rings.Walk.{IsSuccessor}
use Rattle.plane.specs.Edge as plane
use Rattle.lists.specs.Member.{In}
use Rattle.osm_geom.specs.declared.edge.Edge.{Edge}
use Rattle.osm_geom.specs.InPlane.Multiple.{edges_times, product_of_denominators, whole_edges}
use Rattle.osm_geom.specs.InPlane.Sided.{IsSided}
use Rattle.osm_rings.specs.RingList.{AreRingsOf}

-- each edge of a sided list has a successor
abbrev pub SuccessorExists : Type 0
SuccessorExists = (es : List Edge) → IsSided es → (e : plane.Edge) → In e (whole_edges es) → (f : plane.Edge) × IsSuccessor (whole_edges es) e f

-- it leaves the node that the edge enters
abbrev pub SuccessorLeaves : Type 0
SuccessorLeaves = (es : List Edge) → IsSided es → (e f : plane.Edge) → In e (whole_edges es) → IsSuccessor (whole_edges es) e f → e.to ≡ f.from

-- no edge is the successor of two
abbrev pub SuccessorIsOneToOne : Type 0
SuccessorIsOneToOne = (es : List Edge) → IsSided es → (d e f : plane.Edge) → In d (whole_edges es) → In e (whole_edges es) → IsSuccessor (whole_edges es) d f → IsSuccessor (whole_edges es) e f → d ≡ e

-- every sided list has a ring list, of its own edges
abbrev pub RingListOfEdgesExists : Type 0
RingListOfEdgesExists = (es : List Edge) → IsSided es → (rs : List (List Edge)) × AreRingsOf es rs

-- no two of the rings cross, in the plane multiplied by the common denominator
abbrev pub RingsOfEdgesDoNotCross : Type 0
RingsOfEdgesDoNotCross =
    (es : List Edge) → IsSided es → (rs : List (List Edge)) → AreRingsOf es rs →
    IsRingList (map (edges_times (product_of_denominators es)) rs)
