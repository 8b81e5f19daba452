-- By enclosers, begun rings and a sorted order of them.
use Rattle.osm_nest.proofs.NestingExists.{nesting_exists}
use Rattle.osm_nest.proofs.laws.nesting_exists.Goals as goal

pub returns : goal.returns
returns c = nesting_exists
