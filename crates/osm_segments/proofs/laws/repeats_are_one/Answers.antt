use Rattle.osm_segments.proofs.RepeatLists.{repeats_one}
use Rattle.osm_segments.proofs.laws.repeats_are_one.Goals as goal

pub returns : goal.returns
returns c = repeats_one
