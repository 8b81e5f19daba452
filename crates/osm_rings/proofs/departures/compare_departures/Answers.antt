-- Where the points are one, the directions decide.
use Rattle.std.proofs.Common.{refl, sym, ◌∙◌}
use Rattle.std.specs.declared.cmp.Ordering.TheVariants.{Equal}
use Rattle.osm_rings.proofs.DeparturesRound.{compared}
use Rattle.osm_rings.proofs.departures.compare_departures.Goals as goal

pub returns-in-Equal : goal.returns-in-Equal
returns-in-Equal c = compared c.args.departure.now c.args.other.now Equal c.clockwise.result _ c.dir.result c.dir-in-Equal.result (sym c.in-Equal.is ∙ c.order_points.ensures) c.clockwise.ensures refl c.dir.ensures c.dir-in-Equal.ensures
