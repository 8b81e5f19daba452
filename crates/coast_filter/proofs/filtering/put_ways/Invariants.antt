use Rattle.std.proofs.Common.{◌≡◌, ◌++◌, take}
use Rattle.std.specs.List.{flat_map}
use Rattle.coast_filter.specs.ByIds.{way_line_by_id}
use Rattle.coast_filter.proofs.filtering.put_ways.Given as goal

abbrev pub invariant-loop-way : goal.invariant-loop-way
invariant-loop-way l = l.text.items ≡ l.initial.text.items ++ flat_map (way_line_by_id l.store) (take l.way-index l.ways)
