-- Each ring is a part of a list without conflicts.
use Rattle.osm_nest.proofs.DirectEnclosers.{each-clear}
use Rattle.osm_nest.proofs.laws.rings_are_clear.Goals as goal

pub returns : goal.returns
returns c = each-clear
