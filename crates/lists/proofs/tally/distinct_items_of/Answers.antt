use Rattle.std.proofs.Common.{ap, cond, min, ◌∙◌}
use Rattle.std.specs.Ordering.{is_eq}
use Rattle.std.proofs.lemmas.List.Filters.{dedup_is}
use Rattle.std.proofs.lemmas.List.Sorted.{sum_by-IsPermutation}
use Rattle.lists.specs.Rising.{count_of}
use Rattle.lists.proofs.Deduped.{count-dedup, rising-dedup}
use Rattle.lists.proofs.tally.distinct_items_of.Goals as goal

pub returns-clause-once : goal.returns-clause-once
returns-clause-once g c x =
    let cmp = g.T.Ord.cmp in
    let sorted = c.sort_unstable.new.self.items in
    ap (count_of cmp x) (dedup_is _ _ _ c.dedup.ensures.filtered)
    ∙ (count-dedup g.met.T.Ord.total g.met.T.Ord.matches_eq sorted c.sort_unstable.ensures.sorted x
    ∙ ap (λ n. min 1 n) (sum_by-IsPermutation (λ t. cond (is_eq (cmp t x)) 1 0) _ _ c.sort_unstable.ensures.permutation))

pub returns-clause-rising : goal.returns-clause-rising
returns-clause-rising g c = rw (dedup_is _ _ _ c.dedup.ensures.filtered) (rising-dedup g.met.T.Ord.total g.met.T.Ord.matches_eq c.sort_unstable.new.self.items c.sort_unstable.ensures.sorted)
