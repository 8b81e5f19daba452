-- The departures on both sides of the place tell.
use Rattle.std.proofs.Common.{arith}
use Rattle.osm_rings.proofs.Starts.{end-by-neighbours}
use Rattle.osm_rings.proofs.departures.is_end_at.Goals as goal

pub returns-clause-end : goal.returns-clause-end
returns-clause-end c h = end-by-neighbours c.args.departures.now c.requires.rising c.args.p c.args.place (omega arith) (c.parts_after.ensures.before h) (c.parts_after.ensures.from h)
