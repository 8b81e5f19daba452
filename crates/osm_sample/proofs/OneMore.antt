-- What is made of one more number, after what is made of those before it.
use Rattle.std.proofs.Common.{◌≡◌, ◌∙◌, sym, ap, ℕ, suc, ◌+◌, List, [], ◌∷◌, ◌++◌, map, arith}
use Rattle.std.proofs.lemmas.List.{append_assoc, map-append}
use Rattle.osm_sample.specs.Numbers.{numbers}

pub made_more : {A : Type 0} (f : ℕ → A) (n : ℕ) (old now new : List A) → now ≡ old ++ map f (numbers n) → new ≡ now ++ f n ∷ [] → new ≡ old ++ map f (numbers (n + 1))
made_more {A} f n old now new was is =
    let next : suc n ≡ n + 1 = omega arith in
    is
    ∙ (ap (λ (xs : List A). xs ++ f n ∷ []) was
    ∙ (append_assoc old (map f (numbers n)) (f n ∷ [])
    ∙ (ap (λ (xs : List A). old ++ xs) (sym (map-append f (numbers n) (n ∷ [])))
    ∙ ap (λ (m : ℕ). old ++ map f (numbers m)) next)))
