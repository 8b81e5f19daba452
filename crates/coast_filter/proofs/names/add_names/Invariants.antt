use Rattle.std.proofs.Common.{◌≡◌, ◌++◌}
use Rattle.coast_filter.specs.CoastPart.{nodes_named}
use Rattle.coast_filter.proofs.names.add_names.Given as goal

-- the names that are there and those to come are all
abbrev pub invariant-loop-reference : goal.invariant-loop-reference
invariant-loop-reference l = l.names.items ++ nodes_named l.reference-iterator ≡ l.initial.names.items ++ nodes_named l.refs
