use Rattle.std.proofs.Common.{ap, cond, length, sym, ◌%◌, ◌∙◌, ◌≡◌}
use Rattle.std.specs.Ordering.{is_eq}
use Rattle.std.proofs.lemmas.List.Sorted.{length_permutation, sum_by-IsPermutation}
use Rattle.lists.specs.Rising.{count_of}
use Rattle.lists.proofs.CancelSteps.{once_at_most}
use Rattle.lists.proofs.odd.odd_items.Given as given
use Rattle.lists.proofs.odd.odd_items.Goals as goal

-- an item stands as often in the sorted copy as in the list
same_count : (g : given.Over) (c : goal.After-cancel_each g) (x : g.row.T.Denot) → count_of g.T.Ord.cmp x c.sort_unstable.new.self.items ≡ count_of g.T.Ord.cmp x c.args.items.now
same_count g c x = sum_by-IsPermutation (λ t. cond (is_eq (g.T.Ord.cmp t x)) 1 0) _ _ c.sort_unstable.ensures.permutation ∙ ap (count_of g.T.Ord.cmp x) c.in_ok-odd.ensures.items

pub returns-clause-odd : goal.returns-clause-odd
returns-clause-odd g c = λ x. c.cancel_each.ensures.odd x ∙ ap (λ n. n % 2) (same_count g c x)

pub returns-clause-once : goal.returns-clause-once
returns-clause-once g c = λ e x.
    let cmp = g.T.Ord.cmp in
    let long = length_permutation c.in_ok-odd.odd.items c.sort_unstable.new.self.items c.sort_unstable.ensures.permutation in
    let all = c.cancel_each.ensures.whole (e ∙ (ap length (sym c.in_ok-odd.ensures.items) ∙ sym long)) in
    let same = ap (count_of cmp x) all ∙ same_count g c x in
    once_at_most (count_of cmp x c.args.items.now) (sym same ∙ (c.cancel_each.ensures.odd x ∙ ap (λ n. n % 2) (same_count g c x)))
