-- The outer rings passed are joined with theirs, and the others' are where they were.
use Rattle.osm_nest.proofs.Joining.{AreJoined}
use Rattle.osm_nest.proofs.grouping.with_inner_rings.Given as goal

abbrev pub invariant-loop-begun : goal.invariant-loop-begun
invariant-loop-begun l = AreJoined l.fn.under.items l.fn.outers.items l.yielded l.under.items l.polygons
