-- Segments directed by the odd side.
use Rattle.std.specs.Prelude.{List, cond, map, pos, ℤ, ◌%◌, ◌≡◌}
use Rattle.plane.specs.Sign.{Plus, sign}
use Rattle.plane.specs.Vector.{Vector, east}
use Rattle.plane_lists.specs.Lists.EdgeList.{crossing_count}
use Rattle.plane_lists.specs.Lists.OddSide as odd_side
use Rattle.plane_lists.specs.Lists.ScaledEdges.{scaled_edges}
use Rattle.osm_geom.specs.declared.edge.Carrier.TheVariants.{OfSeg}
use Rattle.osm_geom.specs.declared.edge.Edge.{Edge}
use Rattle.osm_geom.specs.declared.point.Point.{Point}
use Rattle.osm_geom.specs.declared.point.Point.TheVariants.{Lattice}
use Rattle.osm_lattice.specs.declared.seg.Seg.{Seg}
use Rattle.osm_lattice.specs.Seg.{edge_of}
use Rattle.osm_geom.specs.InPlane.Sided.{signed_count_at}
use Rattle.osm_sides.specs.Survivors.{plane_edges_of}

-- where s begins and ends, if the odd side among segs directs it
abbrev pub first_end : List Seg → Seg → Point
first_end segs s = Lattice (cond (odd_side.runs_up_by_odd_side (plane_edges_of segs) (edge_of s)) s.a s.b)

abbrev pub last_end : List Seg → Seg → Point
last_end segs s = Lattice (cond (odd_side.runs_up_by_odd_side (plane_edges_of segs) (edge_of s)) s.b s.a)

-- one edge for each segment, in order, with its odd side on the left
pub record AreDirected (segs : List Seg) (edges : List Edge) : Type 0 where
  pub whole : map (λ (e : Edge). e.carrier) edges ≡ map OfSeg segs
  pub firsts : map (λ (e : Edge). e.from) edges ≡ map (first_end segs) segs
  pub lasts : map (λ (e : Edge). e.to) edges ≡ map (last_end segs) segs

-- at every point p.x / q, p.y / q the signed count of the edges is the parity of the segments
abbrev pub CountsParity : List Seg → List Edge → Type 0
CountsParity segs edges = (q : ℤ) → sign q ≡ Plus → (p : Vector) → signed_count_at q p edges ≡ pos (crossing_count east p (scaled_edges q (plane_edges_of segs)) % 2)
