-- The sample has one coastline way.
use Rattle.osm_sample.proofs.OneCoast.{one_coast}
use Rattle.osm_sample.proofs.laws.sample_has_one_coast.Goals as goal

pub returns : goal.returns
returns c = one_coast
