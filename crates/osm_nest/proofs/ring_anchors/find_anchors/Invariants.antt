-- The anchors of the rings passed, and whether these are outer.
use Rattle.std.proofs.Common.{false}
use Rattle.osm_nest.proofs.AnchorLists.{ListsAnchors}
use Rattle.osm_nest.proofs.Filled.{IsFilled, tells_at}
use Rattle.osm_nest.proofs.ring_anchors.find_anchors.Given as goal

abbrev pub invariant-loop-place : goal.invariant-loop-place
invariant-loop-place l = ListsAnchors l.rings l.place l.edges.items × IsFilled (tells_at l.rings) false l.place l.outer.items
