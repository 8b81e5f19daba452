use Rattle.std.proofs.Common.{◌≡◌, ◌++◌}
use Rattle.osm_area.specs.Missing.{nodes_missing}
use Rattle.osm_area.proofs.missing.add_missing_nodes.Given as goal

-- what is there and what the others to come give are all
abbrev pub invariant-loop-reference : goal.invariant-loop-reference
invariant-loop-reference l = l.missing.items ++ nodes_missing l.store l.reference-iterator ≡ l.initial.missing.items ++ nodes_missing l.store l.refs
