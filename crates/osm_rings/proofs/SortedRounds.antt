-- A list that was lent whole, and came back in another order.
use Rattle.std.proofs.Common.{List, ap, drop, length, subst, sym, take, ℕ, ◌++◌, ◌∙◌, ◌≡◌}
use Rattle.std.specs.List.Sorted.{IsPermutation}
use Rattle.std.proofs.lemmas.List.{take_at}
use Rattle.std.proofs.lemmas.List.Sorted.{IsPermutation-trans, length_permutation}

pub put-back : {X : Type 0} (given first lent again : List X) (n : ℕ) → IsPermutation given first → lent ≡ first → IsPermutation lent again → length first ≡ n → IsPermutation given (take n (again ++ drop (length again) first))
put-back given first lent again n moved is sorted size =
    let as_long = length_permutation lent again sorted ∙ ap length is ∙ size in
    IsPermutation-trans given first _ moved
    (subst (IsPermutation first) (sym (take_at again (drop (length again) first) n as_long)) (subst (λ xs. IsPermutation xs again) is sorted))
