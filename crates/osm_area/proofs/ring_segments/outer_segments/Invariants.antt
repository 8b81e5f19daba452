use Rattle.std.proofs.Common.{◌≡◌, take}
use Rattle.osm_area.specs.RoleKinds.{has_segment}
use Rattle.osm_lattice.specs.declared.seg.Seg.{Seg}
use Rattle.osm_area.specs.Roles.{is_in_rings, outers}
use Rattle.osm_area.proofs.ring_segments.outer_segments.Given as goal

abbrev pub invariant-loop-polygon : goal.invariant-loop-polygon
invariant-loop-polygon l = (s : Seg) → has_segment l.segs.items s ≡ is_in_rings (outers (take l.polygon-index l.polygons)) s
