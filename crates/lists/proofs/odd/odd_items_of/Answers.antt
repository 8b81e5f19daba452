use Rattle.std.proofs.Common.{ap, cond, sym, ◌%◌, ◌∙◌, ◌≡◌}
use Rattle.std.specs.Ordering.{is_eq}
use Rattle.std.proofs.lemmas.List.Sorted.{length_permutation, sum_by-IsPermutation}
use Rattle.lists.specs.Rising.{count_of}
use Rattle.lists.proofs.CancelSteps.{once_at_most}
use Rattle.lists.proofs.odd.odd_items_of.Given as given
use Rattle.lists.proofs.odd.odd_items_of.Goals as goal

-- an item stands as often in the sorted list as in the list
same_count : (g : given.Over) (c : goal.After-cancel_each g) (x : g.row.T.Denot) → count_of g.T.Ord.cmp x c.sort.new.self.items ≡ count_of g.T.Ord.cmp x c.args.items.items
same_count g c x = sum_by-IsPermutation (λ t. cond (is_eq (g.T.Ord.cmp t x)) 1 0) _ _ c.in_ok-sort.ensures.permutation

pub returns-clause-odd : goal.returns-clause-odd
returns-clause-odd g c = λ x. c.cancel_each.ensures.odd x ∙ ap (λ n. n % 2) (same_count g c x)

pub returns-clause-once : goal.returns-clause-once
returns-clause-once g c = λ e x.
    let cmp = g.T.Ord.cmp in
    let all = c.cancel_each.ensures.whole (e ∙ sym (length_permutation c.args.items.items c.sort.new.self.items c.in_ok-sort.ensures.permutation)) in
    let same = ap (count_of cmp x) all ∙ same_count g c x in
    once_at_most (count_of cmp x c.args.items.items) (sym same ∙ (c.cancel_each.ensures.odd x ∙ ap (λ n. n % 2) (same_count g c x)))
