-- The anchors of the inner rings passed.
use Rattle.std.proofs.Common.{All}
use Rattle.osm_nest.specs.SweptEdges.{IsInnerAnchor}
use Rattle.osm_nest.proofs.sweep.enclosers.inner_anchors.Given as goal

abbrev pub invariant-loop-place : goal.invariant-loop-place
invariant-loop-place l = All (IsInnerAnchor l.rings) l.inner.items
