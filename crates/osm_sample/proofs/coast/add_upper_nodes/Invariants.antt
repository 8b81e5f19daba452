use Rattle.std.proofs.Common.{◌≡◌, ◌++◌, map}
use Rattle.osm_sample.specs.Numbers.{numbers}
use Rattle.osm_sample.specs.Objects.{upper_node}
use Rattle.osm_sample.proofs.coast.add_upper_nodes.Given as goal

abbrev pub invariant-loop-s : goal.invariant-loop-s
invariant-loop-s l = l.objects.items ≡ l.initial.objects.items ++ map (upper_node l.n) (numbers l.s)
