use Rattle.coast_join.specs.Matches.{HasMatched, IsFurther, unmarked}
use Rattle.coast_join.proofs.nearest_pairs.settle.Given as goal

abbrev pub invariant-loop-end : goal.invariant-loop-end
invariant-loop-end l = record {
  matched : HasMatched l.limit l.matching;
  further : IsFurther l.initial.matching l.matching;
}

abbrev pub decreases-loop-end : goal.decreases-loop-end
decreases-loop-end l = unmarked l.matching
