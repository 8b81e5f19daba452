-- The successor is among the departures that leave the end.
use Rattle.std.proofs.Common.{refl, subst, sym}
use Rattle.osm_geom.specs.Edge.{direction_of, opposite}
use Rattle.osm_geom.specs.InPlane.Multiple.{edge_times, product_of_denominators, whole_edges}
use Rattle.osm_rings.specs.Departures.{IsFirstMet}
use Rattle.osm_rings.proofs.FirstMets.{met-none, met-some}
use Rattle.osm_rings.proofs.successors.successor.Goals as goal

pub returns-in_err-departure : goal.returns-in_err-departure
returns-in_err-departure c = λ es are member.
    subst (IsFirstMet (whole_edges es) (edge_times (product_of_denominators es) c.args.edge.now)) (sym c.from_residual.ensures)
    (met-none es c.args.departures.now are c.args.edge.now member (opposite (direction_of c.args.edge.now)) refl c.leaving.result.now c.leaving.ensures c.in_err-departure.ensures.none)

pub returns : goal.returns
returns c = λ es are member.
    met-some es c.args.departures.now are c.args.edge.now member (opposite (direction_of c.args.edge.now)) refl c.leaving.result.now c.leaving.ensures c.in_ok-departure.departure.now c.in_ok-departure.ensures.member c.in_ok-departure.ensures.first
