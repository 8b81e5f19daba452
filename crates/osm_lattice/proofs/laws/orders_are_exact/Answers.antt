use Rattle.std.proofs.lemmas.Cmp.{tied_itself}
use Rattle.osm_lattice.proofs.LocationOrder.{loc_total, seg_total, loc_cmp-is}
use Rattle.osm_lattice.proofs.Orders.{loc_same, seg_same}
use Rattle.osm_lattice.proofs.laws.orders_are_exact.Goals as goal

pub returns-clause-points : goal.returns-clause-points
returns-clause-points c = loc_cmp-is

pub returns-clause-locations : goal.returns-clause-locations
returns-clause-locations c = λ p q. (loc_same p q, λ e. rw e (tied_itself loc_total q))

pub returns-clause-segments : goal.returns-clause-segments
returns-clause-segments c = λ s t. (seg_same s t, λ e. rw e (tied_itself seg_total t))
