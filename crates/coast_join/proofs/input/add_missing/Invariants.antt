use Rattle.std.proofs.Common.{◌≡◌, ◌++◌, map, take}
use Rattle.coast_join.specs.declared.way.Aside.TheVariants.{Missing}
use Rattle.coast_join.proofs.input.add_missing.Given as goal

abbrev pub invariant-loop-node : goal.invariant-loop-node
invariant-loop-node l = l.asides ≡ l.initial.asides ++ map (Missing l.way) (take l.node-index l.nodes)
