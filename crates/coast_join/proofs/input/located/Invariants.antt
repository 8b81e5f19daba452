use Rattle.std.proofs.Common.{◌≡◌, ◌++◌}
use Rattle.std.specs.List.{filter_map}
use Rattle.osm_objects.specs.Objects.{place_of}
use Rattle.coast_join.proofs.input.located.Given as goal

-- what is there and what the others to come give are all
abbrev pub invariant-loop-reference : goal.invariant-loop-reference
invariant-loop-reference l = l.locs.items ++ filter_map (place_of l.store) l.reference-iterator ≡ filter_map (place_of l.store) l.refs
