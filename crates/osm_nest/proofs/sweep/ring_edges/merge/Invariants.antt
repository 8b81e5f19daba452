-- What is left of both, and what stands behind it, are all of them in another order.
use Rattle.std.proofs.Common.{◌++◌, ◌+◌}
use Rattle.osm_nest.proofs.Merging.{AreMerging}
use Rattle.osm_nest.proofs.sweep.ring_edges.merge.Given as goal

abbrev pub invariant-loop-rest : goal.invariant-loop-rest
invariant-loop-rest l = AreMerging (l.fn.edges.items ++ l.others) l.others l.edges.items l.left l.rest

abbrev pub decreases-loop-rest : goal.decreases-loop-rest
decreases-loop-rest l = l.left + l.rest
