use Rattle.std.proofs.Common.{◌≡◌, ◌||◌, take}
use Rattle.osm_area.specs.RoleKinds.{has_segment}
use Rattle.std.specs.List.{list_any}
use Rattle.osm_lattice.specs.declared.seg.Seg.{Seg}
use Rattle.osm_geom.specs.declared.edge.Edge.{Edge}
use Rattle.osm_area.specs.Roles.{carries}
use Rattle.osm_area.proofs.ring_segments.add_ring.Given as goal

abbrev pub invariant-loop-edge : goal.invariant-loop-edge
invariant-loop-edge l = (s : Seg) → has_segment l.segs.items s ≡ (has_segment l.initial.segs.items s || list_any (λ (e : Edge). carries s e.carrier) (take l.edge-index l.ring))
