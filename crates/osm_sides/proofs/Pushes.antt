-- A list that grows by what the next item gives.
use Rattle.std.proofs.Common.{◌≡◌, ◌∙◌, ap, sym, ℕ, ◌+◌, ◌<◌, List, [], ◌∷◌, ◌++◌, get_or, length, map, take}
use Rattle.std.proofs.lemmas.List.{map_push, take_more}

module _ {A B S : Type 0} (f : A → B) (g : S → B) (ss : List S) (i : ℕ) (s : S) (es new : List A) (e : A) where
  pub map_more : map f es ≡ map g (take i ss) → f e ≡ g s → new ≡ es ++ e ∷ [] → s ≡ get_or ss i s → i < length ss → map f new ≡ map g (take (i + 1) ss)
  map_more so_far same grown next inside =
      ap (map f) grown ∙ map_push f es e ∙ ap (λ bs. bs ++ f e ∷ []) so_far ∙ ap (λ b. map g (take i ss) ++ b ∷ []) (same ∙ ap g next)
      ∙ sym (ap (map g) (take_more ss i s inside) ∙ map_push g (take i ss) (get_or ss i s))
