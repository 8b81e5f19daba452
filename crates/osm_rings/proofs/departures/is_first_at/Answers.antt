-- The departures on both sides of the place tell.
use Rattle.std.proofs.Common.{arith}
use Rattle.osm_rings.proofs.Starts.{first-by-neighbours}
use Rattle.osm_rings.proofs.departures.is_first_at.Goals as goal

pub returns-clause-first : goal.returns-clause-first
returns-clause-first c h = first-by-neighbours c.args.departures.now c.requires.rising c.args.p c.args.place (omega arith) (c.parts_before.ensures.before h) (c.parts_before.ensures.from h)
