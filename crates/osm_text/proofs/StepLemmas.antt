-- A loop that adds what it makes of each item, up to what all give: one more item.
use Rattle.std.proofs.Common.{◌≡◌, ◌∙◌, ◌+◌, ◌<◌, ◌++◌, ◌∷◌, [], ℕ, List, Option, append_assoc, ap, drop, get_or, length, sym}
use Rattle.std.specs.List.{filter_map, flat_map}
use Rattle.std.proofs.lemmas.List.{drop_more}
use Rattle.std.proofs.lemmas.List.Elements.{filter_map-append}

module _ {X : Type 0} (xs : List X) (k : ℕ) (x : X) (less : k < length xs) (stands : x ≡ get_or xs k x) where
  next : drop k xs ≡ x ∷ drop (k + 1) xs
  next = drop_more xs k x less ∙ ap (λ (z : X). z ∷ drop (k + 1) xs) (sym stands)

  pub flat_step : {Y : Type 0} (f : X → List Y) (before after whole : List Y) → after ≡ before ++ f x → before ++ flat_map f (drop k xs) ≡ whole → after ++ flat_map f (drop (k + 1) xs) ≡ whole
  flat_step {Y} f before after whole added so_far =
      ap (λ (ys : List Y). ys ++ flat_map f (drop (k + 1) xs)) added ∙ append_assoc before (f x) (flat_map f (drop (k + 1) xs))
      ∙ ap (λ (zs : List X). before ++ flat_map f zs) (sym next) ∙ so_far

  pub filter_step : {Y : Type 0} (h : X → Option Y) (before after whole : List Y) → after ≡ before ++ filter_map h (x ∷ []) → before ++ filter_map h (drop k xs) ≡ whole →
      after ++ filter_map h (drop (k + 1) xs) ≡ whole
  filter_step {Y} h before after whole added so_far =
      ap (λ (ys : List Y). ys ++ filter_map h (drop (k + 1) xs)) added ∙ append_assoc before (filter_map h (x ∷ [])) (filter_map h (drop (k + 1) xs))
      ∙ ap (λ (ys : List Y). before ++ ys) (sym (filter_map-append h (x ∷ []) (drop (k + 1) xs)))
      ∙ ap (λ (zs : List X). before ++ filter_map h zs) (sym next) ∙ so_far
