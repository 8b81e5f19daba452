use Rattle.std.proofs.Common.{map, ◌≡◌}
use Rattle.osm_nest.specs.Polygons.{edges_in}
use Rattle.job_coastline.proofs.outlines.edges_of_each.Given as goal

abbrev pub invariant-loop-polygon : goal.invariant-loop-polygon
invariant-loop-polygon l = l.lists.items ≡ map edges_in l.yielded
