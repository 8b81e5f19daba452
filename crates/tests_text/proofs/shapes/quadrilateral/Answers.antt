use Rattle.std.proofs.Common.{sym, subst}
use Rattle.osm_rings.specs.Ring.{IsRing}
use Rattle.tests_text.proofs.Corners.{quadrilateral_ring}
use Rattle.tests_text.proofs.shapes.quadrilateral.Goals as goal

pub of_edges-requires : goal.of_edges-requires
of_edges-requires c =
    subst IsRing (sym c.in_ok-edges.ensures.items)
    (quadrilateral_ring _ _ _ _ c.in_ok-meet.ensures c.in_ok-meet-2.ensures c.in_ok-meet-3.ensures c.in_ok-meet-4.ensures c.in_ok-apart.ensures c.in_ok-apart-2.ensures)
