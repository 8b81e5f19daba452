-- Ranks of the elements of a list in an order.
use Rattle.std.specs.Prelude.{Bool, List, not, suc, true, zero, ℕ, ◌+◌, ◌≡◌}
use Rattle.std.specs.List.{count_by}
use Rattle.lists.specs.Member.{EachPair, In}

-- how many elements are above x
abbrev pub rank : {X : Type 0} → (X → X → Bool) → List X → X → ℕ
rank above xs x = count_by (above x) xs

-- `above x y`: y is above x. A total order of the elements, none of which occurs twice.
-- It is strict if `own` is false, and otherwise each element is above itself.
pub record IsOrder {X : Type 0} (own : Bool) (above : X → X → Bool) (xs : List X) : Type 0 where
  pub itself : (x : X) → In x xs → above x x ≡ own
  pub chain : (x y z : X) → In x xs → In y xs → In z xs → above x y ≡ true → above y z ≡ true → above x z ≡ true
  pub either : EachPair (λ x y. above x y ≡ not (above y x)) xs

-- f c + f (c + 1) + .. , n terms
abbrev pub sum_from : (ℕ → ℕ) → ℕ → ℕ → ℕ
sum_from f c zero = 0
sum_from f c (suc n) = sum_from f c n + f (c + n)
