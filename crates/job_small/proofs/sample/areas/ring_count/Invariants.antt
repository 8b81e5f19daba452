use Rattle.std.proofs.Common.{◌≡◌, length, take}
use Rattle.osm_nest.specs.Polygons.{rings_of}
use Rattle.job_small.proofs.sample.areas.ring_count.Given as goal

abbrev pub invariant-loop-polygon : goal.invariant-loop-polygon
invariant-loop-polygon l = l.count ≡ length (rings_of (take l.polygon-index l.polygons))
