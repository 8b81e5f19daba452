use Rattle.std.proofs.Common.{◌≡◌, ◌++◌, drop}
use Rattle.osm_objects.specs.CoastWays.{coast_ways}
use Rattle.osm_objects.proofs.StoreLemmas.{objects_from}
use Rattle.osm_objects.proofs.store.Store.coast_ways.Given as goal

abbrev pub invariant-loop-placed : goal.invariant-loop-placed
invariant-loop-placed l = l.list.items ++ coast_ways (objects_from (drop l.placed-index l.others)) ≡ coast_ways l.self
