use Rattle.std.proofs.Common.{◌≡◌, ◌++◌}
use Rattle.std.specs.List.{flat_map}
use Rattle.osm_sample.specs.Numbers.{numbers}
use Rattle.osm_sample.specs.Objects.{cell_nodes}
use Rattle.osm_sample.proofs.cells.add_cell_nodes.Given as goal

abbrev pub invariant-loop-k : goal.invariant-loop-k
invariant-loop-k l = l.objects.items ≡ l.initial.objects.items ++ flat_map (cell_nodes l.n) (numbers l.k)
