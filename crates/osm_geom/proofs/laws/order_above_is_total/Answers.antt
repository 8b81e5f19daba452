use Rattle.osm_geom.proofs.TotalAbove.{above_reverses, above_chains, above_ties_alike, above_one_line}
use Rattle.osm_geom.proofs.laws.order_above_is_total.Goals as goal

pub returns-clause-reverses : goal.returns-clause-reverses
returns-clause-reverses c = above_reverses

pub returns-clause-transitive : goal.returns-clause-transitive
returns-clause-transitive c = above_chains

pub returns-clause-ties : goal.returns-clause-ties
returns-clause-ties c = above_ties_alike

pub returns-clause-apart : goal.returns-clause-apart
returns-clause-apart c = above_one_line
