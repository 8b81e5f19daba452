use Rattle.std.proofs.Common.{◌≡◌, ◌++◌, map, take}
use Rattle.osm_objects.specs.declared.plain.PlainNode.{PlainNode}
use Rattle.osm_objects.proofs.plain.push_ids.Given as goal

abbrev pub invariant-loop-node : goal.invariant-loop-node
invariant-loop-node l = l.ids.items ≡ l.initial.ids.items ++ map (λ (n : PlainNode). n.id) (take l.node-index l.nodes)
