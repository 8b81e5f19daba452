-- Nothing is taken at first.
use Rattle.std.proofs.Common.{List, subst, arith}
use Rattle.std.specs.List.Sorted.{IsPermutation}
use Rattle.coast_join.specs.declared.nearest_pairs.Matching.{Matching}
use Rattle.coast_join.specs.declared.sites.Site.{Site}
use Rattle.coast_join.proofs.MatchedPairs.{none_matched}
use Rattle.coast_join.proofs.nearest_pairs.matching_of.Goals as goal

pub returns-clause-matched : goal.returns-clause-matched
returns-clause-matched c limit =
    let ended = c.in_ok-ended.ended in
    let started = c.in_ok-started.started in
    let n : Matching = record { ends = ended; starts = started; waiting = c.new.result; gaps = c.new-2.result } in
    none_matched limit c.args.ends.now c.args.chains (omega arith) c.requires.inside c.requires.rising n c.in_ok-ended.ensures.tree c.in_ok-started.ensures.tree
    (subst (λ (xs : List Site). IsPermutation xs ended.sites.items) c.in_ok-end_sites.ensures c.in_ok-ended.ensures.sites)
    (subst (λ (xs : List Site). IsPermutation xs started.sites.items) c.in_ok-start_sites.ensures c.in_ok-started.ensures.sites)
    c.in_ok-ended.ensures.sized c.in_ok-started.ensures.sized c.in_ok-ended.ensures.unmarked c.in_ok-started.ensures.unmarked c.new.ensures.items c.new-2.ensures.items
