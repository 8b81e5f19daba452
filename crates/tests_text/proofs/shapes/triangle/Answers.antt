use Rattle.std.proofs.Common.{sym, subst}
use Rattle.osm_rings.specs.Ring.{IsRing}
use Rattle.tests_text.proofs.Corners.{triangle_ring}
use Rattle.tests_text.proofs.shapes.triangle.Goals as goal

pub of_edges-requires : goal.of_edges-requires
of_edges-requires c =
    subst IsRing (sym c.in_ok-edges.ensures.items) (triangle_ring _ _ _ c.in_ok-meet.ensures c.in_ok-meet-2.ensures c.in_ok-meet-3.ensures)
