-- What a list contains, item by item.
use Rattle.std.proofs.Common.{Contains, List, [], arith, inl, inr, refl, suc, zero, ◌∷◌, ◌≡◌, ◌⊎◌}

module _ {X : Type 0} where
  pub first_member : (x : X) (xs : List X) → Contains (x ∷ xs) x
  first_member x xs = (0, omega arith, refl)

  pub later_member : (x y : X) (xs : List X) → Contains xs y → Contains (x ∷ xs) y
  later_member x y xs (k, h, e) = (suc k, omega arith, e)

  pub no_member : (x : X) → Contains [] x → ⊥
  no_member x (k, h, e) = absurd (omega arith)

  pub member_cases : (x y : X) (xs : List X) → Contains (x ∷ xs) y → (x ≡ y) ⊎ Contains xs y
  member_cases x y xs (zero, h, e) = inl e
  member_cases x y xs (suc k, h, e) = inr (k, omega arith, e)
