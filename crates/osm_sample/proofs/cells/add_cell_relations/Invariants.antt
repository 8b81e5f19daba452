use Rattle.std.proofs.Common.{◌≡◌, ◌++◌, map}
use Rattle.osm_sample.specs.Numbers.{numbers}
use Rattle.osm_sample.specs.Objects.{cell_relation}
use Rattle.osm_sample.proofs.cells.add_cell_relations.Given as goal

abbrev pub invariant-loop-k : goal.invariant-loop-k
invariant-loop-k l = l.objects.items ≡ l.initial.objects.items ++ map cell_relation (numbers l.k)
