use Rattle.osm_rings.proofs.one_list.ring_list_of_edges_is_one.Goals as goal
use Rattle.osm_rings.proofs.ExactRings.{ring-turned}

pub returns : goal.returns
returns c = λ es sd rs qs a b r i. let t = ring-turned es sd rs qs a b r i in (t.0, t.1, t.2)
