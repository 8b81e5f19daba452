-- Phrases from what was added one after the other.
use Rattle.std.proofs.Common.{◌≡◌, ◌∙◌, ℕ, List, [], ◌∷◌, ◌++◌, ap, append_assoc}

joined : (line word point pair : List ℕ) → line ++ word ++ 32 ∷ [] ++ point ++ pair ≡ line ++ (word ++ 32 ∷ [] ++ point ++ pair)
joined line word point pair = simp append_assoc

-- a word, a space, a point and the segments
pub crossing-put : (line bytes word point pair first second third all : List ℕ) → bytes ≡ word → first ≡ line ++ bytes → second ≡ first ++ 32 ∷ [] → third ≡ second ++ point → all ≡ third ++ pair
    → all ≡ line ++ (word ++ 32 ∷ [] ++ point ++ pair)
crossing-put line bytes word point pair first second third all is_word is_first is_second is_third is_all =
    is_all
    ∙ ap (λ (xs : List ℕ). xs ++ pair) (is_third ∙ ap (λ (xs : List ℕ). xs ++ point) (is_second ∙ ap (λ (xs : List ℕ). xs ++ 32 ∷ []) (is_first ∙ ap (λ (xs : List ℕ). line ++ xs) is_word)))
    ∙ joined line word point pair
