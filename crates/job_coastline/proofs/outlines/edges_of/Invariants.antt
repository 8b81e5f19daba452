use Rattle.std.proofs.Common.{take, ◌++◌, ◌≡◌}
use Rattle.osm_nest.specs.RingLists.{all_edges}
use Rattle.job_coastline.proofs.outlines.edges_of.Given as goal

abbrev pub invariant-loop-ring : goal.invariant-loop-ring
invariant-loop-ring l = l.edges.items ≡ l.fn.polygon.outer ++ all_edges (take l.ring-index l.fn.polygon.inners)
