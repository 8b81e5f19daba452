-- A table of texts that are lent.
use Rattle.std.proofs.Common.{◌≡◌, ℕ, zero, suc, ◌<◌, List, [], ◌∷◌, length, map, refl, Bor, slice_index_or, arith}

-- the text at a place that the table has
pub text_is : (texts : List (Bor (List ℕ))) (place : ℕ) (other : Bor (List ℕ)) → place < length texts → (slice_index_or texts place other).now ≡ slice_index_or (map (λ t. t.now) texts) place []
text_is [] place other lt = absurd (omega arith)
text_is (text ∷ texts) zero other lt = refl
text_is (text ∷ texts) (suc place) other lt = text_is texts place other (omega arith)
