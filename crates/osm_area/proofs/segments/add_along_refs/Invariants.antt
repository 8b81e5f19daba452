use Rattle.std.proofs.Common.{◌≡◌, ◌++◌}
use Rattle.std.specs.List.{filter_map}
use Rattle.osm_objects.specs.Objects.{place_of}
use Rattle.osm_area.specs.Missing.{nodes_missing}
use Rattle.osm_area.specs.Segments.{segments_along}
use Rattle.osm_area.proofs.WholeWays.{segments_from}
use Rattle.osm_area.proofs.segments.add_along_refs.Given as goal

-- what is there and what the others to come give are all, and of those that were passed none is missing
abbrev pub invariant-loop-reference : goal.invariant-loop-reference
invariant-loop-reference l = record {
  added : l.segments.items ++ segments_from l.before (filter_map (place_of l.store) l.reference-iterator) ≡ l.fn.segments.items ++ segments_along (filter_map (place_of l.store) l.refs);
  whole : nodes_missing l.store l.reference-iterator ≡ nodes_missing l.store l.refs;
}
