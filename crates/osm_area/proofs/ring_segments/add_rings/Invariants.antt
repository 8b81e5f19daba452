use Rattle.std.proofs.Common.{◌≡◌, ◌||◌, take}
use Rattle.osm_area.specs.RoleKinds.{has_segment}
use Rattle.osm_lattice.specs.declared.seg.Seg.{Seg}
use Rattle.osm_area.specs.Roles.{is_in_rings}
use Rattle.osm_area.proofs.ring_segments.add_rings.Given as goal

abbrev pub invariant-loop-ring : goal.invariant-loop-ring
invariant-loop-ring l = (s : Seg) → has_segment l.segs.items s ≡ (has_segment l.initial.segs.items s || is_in_rings (take l.ring-index l.rings) s)
