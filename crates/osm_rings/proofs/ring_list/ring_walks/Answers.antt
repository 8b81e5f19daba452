-- The departures leave later and later points.
use Rattle.std.proofs.Common.{subst, sym}
use Rattle.osm_rings.specs.Departures.{AreDepartures}
use Rattle.osm_rings.proofs.ring_list.ring_walks.Goals as goal

pub whole_walks-requires-clause-apart : goal.whole_walks-requires-clause-apart
whole_walks-requires-clause-apart c =
    let es = c.args.edges.now in
    c.are_apart.ensures c.if-are_apart.true es (subst (AreDepartures es) (sym c.deref-2.ensures.value) c.in_ok-departures.ensures)
