-- The end that is nearer, and its start.
use Rattle.coast_join.proofs.MatchedPairs.{next_choice}
use Rattle.coast_join.proofs.nearest_pairs.nearer_match.Goals as goal
use Rattle.coast_join.proofs.nearest_pairs.nearer_match.Goals.{else-back-to-via-then-back-to+else-back-pair, else-back-to-via-else-back-to}

pub returns-clause-none : goal.returns-clause-none
returns-clause-none c = next_choice c.args.ends.now c.args.starts.now c.args.pair c.nearest-back.result c.nearest-next.result c.requires.choice c.nearest-back.ensures
    (λ s e. elim c.else-back-to.branch [ else-back-to-via-then-back-to+else-back-pair w ↦ w.if-back-pair.false e | else-back-to-via-else-back-to w ↦ w.if-back-to.false s ])
    c.nearest-next.ensures
