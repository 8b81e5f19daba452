-- All ends are settled, and each pair that is taken stands there once.
use Rattle.std.proofs.Common.{List, min, ap, ◌∙◌}
use Rattle.lists.specs.Rising.{count_of}
use Rattle.coast_join.specs.declared.gap.Gap.{Gap}
use Rattle.coast_join.specs.GapSteps.{gap_cmp}
use Rattle.coast_join.proofs.MatchedPairs.{matched_exact}
use Rattle.coast_join.proofs.nearest_pairs.matched_gaps.Goals as goal

pub returns-clause-exact : goal.returns-clause-exact
returns-clause-exact c = matched_exact c.args.limit c.args.matching.now c.settle_all.new.matching c.from_vec.result c.in_ok-settle_all.ensures.matched c.in_ok-settle_all.ensures.further c.in_ok-settle_all.ensures.gone
    (λ g. ap (count_of gap_cmp g) c.from_vec.ensures ∙ (c.in_ok-gaps.ensures.once g ∙ ap (λ (xs : List Gap). min 1 (count_of gap_cmp g xs)) c.deref.ensures.value))
