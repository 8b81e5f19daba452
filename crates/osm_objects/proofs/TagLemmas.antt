-- A test of the elements of a list, and a filter by it.
use Rattle.std.proofs.Common.{◌≡◌, Bool, true, false, ◌||◌, cond, List, [], ◌∷◌, length, filter, nat_lt, refl, rules}
use Rattle.std.specs.List.{list_any}

-- an element passes exactly where the filter leaves some
pub any_left : {A : Type 0} (p : A → Bool) (xs : List A) → list_any p xs ≡ nat_lt 0 (length (filter p xs))
any_left p [] = refl
any_left {A = A} p (x ∷ xs) = by (p x) (any_left p xs)
  where
    by : (b : Bool) → list_any p xs ≡ nat_lt 0 (length (filter p xs)) → (b || list_any p xs) ≡ nat_lt 0 (length (cond b (x ∷ filter p xs) (filter p xs)))
    by true rest = search rules
    by false rest = rest
