use Rattle.std.proofs.Common.{◌≡◌, ◌++◌, take}
use Rattle.std.specs.List.{flat_map}
use Rattle.coast_filter.specs.ByIds.{among, node_text}
use Rattle.coast_filter.proofs.filtering.put_named.Given as goal

abbrev pub invariant-loop-node : goal.invariant-loop-node
invariant-loop-node l = l.text.items ≡ l.initial.text.items ++ flat_map (node_text l.store) (among l.names (take l.node-index l.nodes))
