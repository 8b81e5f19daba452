use Rattle.std.proofs.Common.{◌≤◌, All, Contains}
use Rattle.coast_join.specs.Matches.{IsChoice, weight}
use Rattle.coast_join.proofs.nearest_pairs.mutual_match.Given as goal

abbrev pub invariant-loop-next : goal.invariant-loop-next
invariant-loop-next l = record {
  choice : IsChoice l.ends l.starts l.pair;
  square : l.pair.to.square ≤ l.fn.from.to.square;
  waiting : All (Contains l.ends.sites.items) l.fn.waiting.items → All (Contains l.ends.sites.items) l.waiting.items;
}

abbrev pub decreases-loop-next : goal.decreases-loop-next
decreases-loop-next l = weight l.pair
