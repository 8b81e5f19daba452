-- The departures of all edges, sorted.
use Rattle.std.proofs.Common.{IsPermutation, length, refl, subst}
use Rattle.osm_rings.proofs.Starts.{if-all-ok, listed-sorted}
use Rattle.osm_rings.proofs.departures.departures.Goals as goal

pub returns : goal.returns
returns c =
    let es = c.args.edges.now in
    let up = c.list_departures.new.up.items in
    let down = c.list_departures.new.down.items in
    if-all-ok c.in_order.result c.in_order.ensures.moved c.in_order.ensures.rising c.in_order.ensures.round
    (λ vs moved rising round. listed-sorted es up down vs.items (length es) refl c.in_ok-list_departures.ensures (subst (λ ws. IsPermutation ws vs.items) c.in_ok-append.ensures.items moved) rising round)
