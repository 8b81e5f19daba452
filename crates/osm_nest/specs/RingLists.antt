-- Ring lists of edges, in the plane multiplied so that all of their points are whole.
use Rattle.std.specs.Prelude.{List, map}
use Rattle.std.specs.List.{flat_map}
use Rattle.plane_lists.specs.Rings.RingList.{IsRingList}
use Rattle.plane.specs.Edge as plane
use Rattle.osm_geom.specs.declared.edge.Edge.{Edge}
use Rattle.osm_geom.specs.InPlane.Multiple.{edges_times, product_of_denominators}

-- all edges of rings, one ring after the other
abbrev pub all_edges : List (List Edge) → List Edge
all_edges rs = flat_map (λ (r : List Edge). r) rs

-- the rings in the plane multiplied by the common denominator of all their edges
abbrev pub whole_rings : List (List Edge) → List (List plane.Edge)
whole_rings rs = map (edges_times (product_of_denominators (all_edges rs))) rs

-- rings that together make a sided list, and no two of which cross
pub record AreRings (rs : List (List Edge)) : Type 0 where
  pub ring_list : IsRingList (whole_rings rs)
