-- Members of lists that are put one after the other.
use Rattle.std.proofs.Common.{List, [], inl, inr, refl, subst, ◌∷◌, ◌⊎◌}
use Rattle.std.specs.List.{flat_map}
use Rattle.lists.specs.Member.{In}
use Rattle.lists.proofs.ListsKit.{in-either, in-left, in-right}

module _ {X Y : Type 0} (f : X → List Y) where
  pub in-flat : (xs : List X) (x : X) (y : Y) → In x xs → In y (f x) → In y (flat_map f xs)
  in-flat [] x y i j = absurd i
  in-flat (z ∷ xs) x y (inl e) j = in-left (f z) (flat_map f xs) y (subst (λ (x : X). In y (f x)) e j)
  in-flat (z ∷ xs) x y (inr i) j = in-right (f z) (flat_map f xs) y (in-flat xs x y i j)

  out-by : (z : X) (xs : List X) (y : Y) → (In y (f z)) ⊎ (In y (flat_map f xs)) → (In y (flat_map f xs) → (x : X) × In x xs × In y (f x)) → (x : X) × In x (z ∷ xs) × In y (f x)
  out-by z xs y (inl i) later = (z, inl refl, i)
  out-by z xs y (inr i) later = let a = later i in (a.0, inr a.1, a.2)

  pub out-flat : (xs : List X) (y : Y) → In y (flat_map f xs) → (x : X) × In x xs × In y (f x)
  out-flat [] y i = absurd i
  out-flat (z ∷ xs) y i = out-by z xs y (in-either (f z) (flat_map f xs) y i) (out-flat xs y)
