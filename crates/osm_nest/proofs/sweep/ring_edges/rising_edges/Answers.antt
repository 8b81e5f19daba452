-- The edges in another order.
use Rattle.osm_nest.proofs.KnownEnclosers.{items-permutation}
use Rattle.osm_nest.proofs.sweep.ring_edges.rising_edges.Goals as goal

pub returns-clause-edges : goal.returns-clause-edges
returns-clause-edges c = items-permutation c.args.rings.now c.in_ok-edges.edges.items c.sort_by_lower_ends.new.edges.items c.sort_by_lower_ends.ensures.moved c.in_ok-edges.ensures
