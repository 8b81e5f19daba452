-- By the laws of the layers below.
use Rattle.osm_area.proofs.OutcomeExists.{exists}
use Rattle.osm_area.proofs.laws.outcome_exists.Goals as goal

pub returns : goal.returns
returns c = exists c.repeats_exist.ensures c.directions_exist.ensures c.ring_list_of_edges_exists.ensures c.rings_may_be_nested.ensures.nested c.nesting_exists.ensures
