-- The first place is not after the end.
use Rattle.osm_rings.proofs.Starts.{first-to-end}
use Rattle.osm_rings.proofs.departures.range_at.Goals as goal

pub returns-clause-ordered : goal.returns-clause-ordered
returns-clause-ordered c = first-to-end c.args.departures.now c.args.p c.first_at-first.result c.end_at.result c.first_at-first.ensures.inside c.first_at-first.ensures.first c.end_at.ensures.end
