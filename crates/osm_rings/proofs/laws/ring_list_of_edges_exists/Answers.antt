-- What a stack cuts off the walks of the multiplied list, as edges of the list itself.
use Rattle.osm_rings.proofs.RingListLifts.{ring_list_there}
use Rattle.osm_rings.proofs.laws.ring_list_of_edges_exists.Goals as goal

pub returns : goal.returns
returns c = ring_list_there
