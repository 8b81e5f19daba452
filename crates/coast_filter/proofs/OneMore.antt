-- One more id, after lists of those before it.
use Rattle.std.proofs.Common.{◌≡◌, ◌∙◌, sym, ap, ℕ, ℤ, pos, ◌+◌, ◌<◌, List, [], ◌∷◌, ◌++◌, length, take, get_or}
use Rattle.std.specs.List.{flat_map}
use Rattle.std.proofs.lemmas.List.{flat_map_more, take_more}

module _ {A : Type 0} (f : ℤ → List A) (ids : List ℤ) (i : ℕ) (z : ℤ) (within : i < length ids) (is_next : z ≡ get_or ids i (pos 0)) where
  more : take i ids ++ z ∷ [] ≡ take (i + 1) ids
  more = ap (λ (w : ℤ). take i ids ++ w ∷ []) is_next ∙ sym (take_more ids i (pos 0) within)

  -- after a text
  pub added : (text now new : List A) → now ≡ text ++ flat_map f (take i ids) → new ≡ now ++ f z → new ≡ text ++ flat_map f (take (i + 1) ids)
  added text now new was is = is ∙ ap (λ (xs : List A). xs ++ f z) was ∙ flat_map_more f text (take i ids) z ∙ ap (λ (zs : List ℤ). text ++ flat_map f zs) more

  -- after nothing
  pub begun : (now new : List A) → now ≡ flat_map f (take i ids) → new ≡ now ++ f z → new ≡ flat_map f (take (i + 1) ids)
  begun now new was is = added [] now new was is
