-- Polygons of a ring list: an outer ring with the inner rings that it directly encloses.
use Rattle.std.specs.Prelude.{List, map, ◌++◌, ◌≡◌}
use Rattle.plane_lists.specs.Rings.Nesting.{EnclosesDirectly, IsInnerRing, IsOuterRing, edges_of}
use Rattle.plane_lists.specs.Rings.Walk.{HasSameEdges}
use Rattle.plane.specs.Edge.{Edge}
use Rattle.lists.specs.Member.{EachPair, In}
use Rattle.plane_lists.specs.Lists.Ring.{segments_of}

pub record Polygon : Type 0 where
  pub outer : List Edge
  pub inner : List (List Edge)

abbrev pub polygon_edges : Polygon → List Edge
polygon_edges g = g.outer ++ edges_of g.inner

-- the rings are of the ring list, the first outer, the others inner and directly enclosed by it, none of them twice
pub record IsPolygon (rs : List (List Edge)) (g : Polygon) : Type 0 where
  pub member : In g.outer rs
  pub is_outer_ring : IsOuterRing (map segments_of rs) (segments_of g.outer)
  pub inner_members : (h : List Edge) → In h g.inner → In h rs
  pub are_inner_rings : (h : List Edge) → In h g.inner → IsInnerRing (map segments_of rs) (segments_of h)
  pub enclosed : (h : List Edge) → In h g.inner → EnclosesDirectly (map segments_of rs) (segments_of g.outer) (segments_of h)
  pub once : EachPair (λ (h k : List Edge). h ≡ k → ⊥) g.inner

-- polygons that together have each edge of the ring list once
pub record ArePolygonsOfRings (rs : List (List Edge)) (gs : List Polygon) : Type 0 where
  pub each : (g : Polygon) → In g gs → IsPolygon rs g
  pub whole : HasSameEdges (edges_of (map polygon_edges gs)) (edges_of rs)
