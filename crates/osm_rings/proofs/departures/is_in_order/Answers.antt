-- What leaves an earlier point doesn't belong behind.
use Rattle.std.proofs.Common.{sym, ◌∙◌}
use Rattle.osm_rings.proofs.DeparturesRound.{told-before}
use Rattle.osm_rings.proofs.departures.is_in_order.Goals as goal

pub returns-then-leaves_before : goal.returns-then-leaves_before
returns-then-leaves_before c = told-before c.args.departure.now c.args.next.now (sym c.leaves_before.ensures ∙ c.if-leaves_before.true)
