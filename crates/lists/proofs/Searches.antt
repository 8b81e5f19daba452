-- Lists in order, searched by halves.
use Rattle.std.proofs.Common.{Err, List, Ok, Result, ap, arith, false, length, sym, ℕ, ◌≡◌, ⊎_elim}
use Rattle.std.specs.Cmp.{IsTotalOrder}
use Rattle.std.specs.List.{list_any}
use Rattle.std.specs.List.Sorted.{IsBinarySearchResult, IsPartitionPoint, IsSearchInRange, IsSorted}
use Rattle.std.specs.Result.{is_ok}
use Rattle.std.specs.Ordering.{is_eq}
use Rattle.std.specs.declared.cmp.Ordering.{Ordering}
use Rattle.std.specs.declared.cmp.Ordering.TheVariants.{Greater, Less}
use Rattle.std.proofs.lemmas.Bool.{cases_lt}
use Rattle.std.proofs.lemmas.List.Folds.{list_any_at, list_any_none}
use Rattle.std.proofs.lemmas.List.Sorted.{searchable_from_sorted}

module _ {X : Type 0} {R : X → X → Ordering} (o : IsTotalOrder R) (xs : List X) (x : X) where
  none-at : (place : ℕ) → IsPartitionPoint (λ y. R y x ≡ Less) (λ y. R y x ≡ Greater) xs place → list_any (λ y. is_eq (R y x)) xs ≡ false
  none-at place parted = list_any_none (λ y. is_eq (R y x)) xs (λ k d h. ⊎_elim
      (λ before. ap is_eq (parted.0 k d (omega arith) before))
      (λ from. ap is_eq (parted.1 k d from h))
      (cases_lt k place))

  pub found : IsSorted R xs → (r : Result ℕ ℕ) → IsSearchInRange r (length xs) → IsBinarySearchResult (λ y. R y x) xs r → is_ok r ≡ list_any (λ y. is_eq (R y x)) xs
  found sorted (Ok place) inside told = sym (list_any_at (λ y. is_eq (R y x)) xs place x inside (ap is_eq (told x)))
  found sorted (Err place) inside told = sym (none-at place (told (searchable_from_sorted o (λ y. y) xs x sorted)))
