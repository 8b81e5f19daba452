use Rattle.std.proofs.Common.{◌≡◌, ap, ◌∙◌, take, cond, get_or, min}
use Rattle.std.specs.Ordering.{is_eq}
use Rattle.std.proofs.lemmas.List.Sorted.{sum_by-IsPermutation}
use Rattle.std.proofs.lemmas.List.{take_all}
use Rattle.lists.specs.Rising.{count_of}
use Rattle.lists.proofs.TallySteps.{upto_sorted, step}
use Rattle.lists.proofs.tally.tallies.Given as given
use Rattle.lists.proofs.tally.tallies.Goals as goal

pub loop-item-preserved : goal.loop-item-preserved
loop-item-preserved g c =
    step g.met.T.Ord.total c.deref-item-items.result.now c.loop-item.item-index c.item-item.result c.loop-item-test.true c.item-item.is
    (c.in_ok-count_in.ensures.counted (take c.loop-item.item-index c.deref-item-items.result.now) c.loop-item.invariant (upto_sorted g.met.T.Ord.total c.deref-item-items.result.now c.loop-item.item-index c.item-item.result (rw c.deref-item-items.ensures.value c.in_ok-sort.ensures.sorted) c.loop-item-test.true c.item-item.is))

-- an item stands as often among those passed as in the list
same_count : (g : given.Over) (c : goal.After-drop-sorted-2 g) (x : g.row.T.Denot) → count_of g.T.Ord.cmp x (take c.loop-item.item-index c.deref-item-items.result.now) ≡ count_of g.T.Ord.cmp x c.args.items.now
same_count g c x =
    let cmp = g.T.Ord.cmp in
    let all = take_all c.loop-item.item-index c.deref-item-items.result.now c.loop-item-test.false in
    let moved = sum_by-IsPermutation (λ t. cond (is_eq (cmp t x)) 1 0) _ _ c.in_ok-sort.ensures.permutation in
    ap (count_of cmp x) all ∙ (ap (count_of cmp x) c.deref-item-items.ensures.value ∙ (moved ∙ ap (count_of cmp x) c.in_ok-sorted.ensures.items))

pub returns-clause-times : goal.returns-clause-times
returns-clause-times g c = λ k d h. c.loop-item.invariant.times k d h ∙ same_count g c (get_or c.loop-item.tallies.items k d).item

pub returns-clause-each : goal.returns-clause-each
returns-clause-each g c = λ x. c.loop-item.invariant.each x ∙ ap (λ n. min 1 n) (same_count g c x)
