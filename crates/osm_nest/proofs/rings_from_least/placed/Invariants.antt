-- The rings passed, with their places.
use Rattle.std.proofs.Common.{◌≡◌}
use Rattle.osm_nest.specs.Grouped.{placed_from}
use Rattle.osm_nest.proofs.rings_from_least.placed.Given as goal

abbrev pub invariant-loop-ring : goal.invariant-loop-ring
invariant-loop-ring l = l.placed.items ≡ placed_from 0 l.yielded
