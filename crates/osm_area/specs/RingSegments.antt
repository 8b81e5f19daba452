-- The segments along which rings run, for look-ups. No public contract cites them.
use Rattle.std.specs.Prelude.{◌≡◌, List}
use Rattle.std.specs.List.Sorted.{IsSorted}
use Rattle.osm_lattice.specs.declared.seg.Seg.{Seg}
use Rattle.osm_lattice.specs.Seg.{seg_cmp}
use Rattle.osm_nest.specs.declared.polygon.Polygon.{Polygon}
use Rattle.osm_area.specs.declared.ring_segments.RingSegments.{RingSegments}
use Rattle.osm_area.specs.RoleKinds.{has_segment}
use Rattle.osm_area.specs.Roles.{is_in_rings, inners, outers}

-- the segments of the outer rings and those of the inner rings of these polygons, in order
pub record AreSegmentsOf (polygons : List Polygon) (segments : RingSegments) : Type 0 where
  pub outer : (s : Seg) → has_segment segments.outer.items s ≡ is_in_rings (outers polygons) s
  pub inner : (s : Seg) → has_segment segments.inner.items s ≡ is_in_rings (inners polygons) s
  pub outer_sorted : IsSorted seg_cmp segments.outer.items
  pub inner_sorted : IsSorted seg_cmp segments.inner.items
