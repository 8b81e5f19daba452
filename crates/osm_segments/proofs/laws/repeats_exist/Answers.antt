use Rattle.osm_segments.proofs.RepeatLists.{repeats_exist}
use Rattle.osm_segments.proofs.laws.repeats_exist.Goals as goal

pub returns : goal.returns
returns c = repeats_exist
