-- Rings and what is left of them, and the line that is printed of a polygon.
use Rattle.std.proofs.Common.{Bool, List, None, Some, [], arith, cond, false, length, refl, sym, true, ℕ, ◌∙◌, ◌∷◌, ◌≡◌}
use Rattle.lists.proofs.ListsKit.{some_member}
use Rattle.osm_geom.specs.declared.edge.Edge.{Edge}
use Rattle.osm_lattice.specs.declared.loc.Loc.{Loc}
use Rattle.osm_rings.specs.Ring.{IsRing}
use Rattle.osm_rings.proofs.PlaneRings.{plane-ring}
use Rattle.osm_text.specs.Piece.{holes_left, piece_line}
use Rattle.osm_text.specs.Rounded.{has_vanished, rounded_ring}
use Rattle.osm_text.specs.declared.piece.PieceKind.{PieceKind}
use Rattle.osm_geom.specs.InPlane.Multiple.{IsCommon, edges_times}
use Rattle.osm_geom.proofs.EdgesKit.{each_whole, signed_count_at_each}
use Rattle.plane_lists.specs.Lists.Ring as winding
use Rattle.one_output.specs.RoundedPieces.Laws.{LineIsOfPrintedRings, RoundedRingIsOff, RoundedRingWindsAlike, VanishedGoesRoundNothing}
use Rattle.one_output.proofs.RoundedPieces.FewLocations.{few-wind}
use Rattle.one_output.proofs.RoundedPieces.RoundedPolygons.{less-out}
use Rattle.one_output.proofs.RoundedPieces.RoundedRings.{ring-off, ring-winds}

in-plane : (k : ℕ) (ring : List Edge) → IsRing ring → IsCommon k ring → winding.IsRing (edges_times k ring)
in-plane k ring is common = plane-ring k ring (some_member ring (omega (arith, is.long))).0 (each_whole k ring common) is

pub rounded-off : RoundedRingIsOff
rounded-off k ring is common q plus p far = ring-off k common.some ring (each_whole k ring common) (in-plane k ring is common) q plus p far

pub rounded-winds : RoundedRingWindsAlike
rounded-winds k ring is common q plus p far =
    ring-winds k common.some ring (each_whole k ring common) (in-plane k ring is common) q plus p far ∙ sym (signed_count_at_each k ring common q p)

pub vanished-none : VanishedGoesRoundNothing
vanished-none ring vanished q p = few-wind q p (rounded_ring ring) (less-out (length (rounded_ring ring)) 3 vanished)

line-by : (v : Bool) (kind : PieceKind) (outer : List Loc) (inners : List (List Loc)) →
    cond v None (Some (piece_line kind (outer ∷ inners))) ≡ cond v None (Some (piece_line kind (cond v [] (outer ∷ inners))))
line-by true kind outer inners = refl
line-by false kind outer inners = refl

pub line-is : LineIsOfPrintedRings
line-is kind polygon = line-by (has_vanished polygon.outer) kind (rounded_ring polygon.outer) (holes_left polygon.inners)
