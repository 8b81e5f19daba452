use Rattle.std.proofs.Common.{◌≡◌, take}
use Rattle.std.specs.List.{flat_map}
use Rattle.coast_filter.specs.ByIds.{way_nodes}
use Rattle.coast_filter.proofs.names.all_names.Given as goal

abbrev pub invariant-loop-way : goal.invariant-loop-way
invariant-loop-way l = l.names.items ≡ flat_map (way_nodes l.store) (take l.way-index l.ways)
