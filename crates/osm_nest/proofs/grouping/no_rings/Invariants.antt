-- One empty list for each place passed.
use Rattle.std.proofs.Common.{All, List, [], length, ◌≡◌}
use Rattle.osm_geom.specs.declared.edge.Edge.{Edge}
use Rattle.osm_nest.proofs.grouping.no_rings.Given as goal

abbrev pub invariant-loop : goal.invariant-loop
invariant-loop l = record {
  sized : length l.under.items ≡ l.counter;
  empty : All (λ (under : List (List Edge)). under ≡ []) l.under.items;
}
