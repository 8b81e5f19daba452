-- Sums over what a filter keeps.
use Rattle.std.proofs.Common.{All, Bool, List, [], ap, arith, cond, false, refl, sym, true, ℕ, ◌+◌, ◌∙◌, ◌∷◌, ◌≡◌}
use Rattle.std.specs.List.{filter, sum_by}
use Rattle.std.proofs.lemmas.List.Elements.{All-head, All-tail}
use Rattle.std.proofs.lemmas.List.Sums.{sum_by-cons}

module _ {X : Type 0} where
  filter-step : (f : X → ℕ) (x : X) (ys : List X) (b : Bool) → sum_by f (cond b (x ∷ ys) ys) ≡ cond b (f x) 0 + sum_by f ys
  filter-step f x ys true = sum_by-cons f x ys
  filter-step f x ys false = omega arith

  pub sum-filter : (p : X → Bool) (f : X → ℕ) (xs : List X) → sum_by f (filter p xs) ≡ sum_by (λ x. cond (p x) (f x) 0) xs
  sum-filter p f [] = refl
  sum-filter p f (x ∷ xs) =
      filter-step f x (filter p xs) (p x) ∙ ap (λ n. cond (p x) (f x) 0 + n) (sum-filter p f xs) ∙ sym (sum_by-cons (λ x. cond (p x) (f x) 0) x xs)

  pub sum-same : (f g : X → ℕ) (xs : List X) → All (λ x. f x ≡ g x) xs → sum_by f xs ≡ sum_by g xs
  sum-same f g [] all = refl
  sum-same f g (x ∷ xs) all =
      let a = All-head (λ x. f x ≡ g x) x xs all in let b = sum-same f g xs (All-tail (λ x. f x ≡ g x) x xs all) in
      sum_by-cons f x xs ∙ ap (λ n. n + sum_by f xs) a ∙ ap (λ n. g x + n) b ∙ sym (sum_by-cons g x xs)
