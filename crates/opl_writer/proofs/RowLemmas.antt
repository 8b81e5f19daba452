-- Items in a row and items joined by commas.
use Rattle.std.proofs.Common.{◌≡◌, ◌∙◌, ℕ, List, [], ◌∷◌, ◌++◌, refl, ap, append_assoc, append-nil}
use Rattle.std.specs.List.{join_with_byte}
use Rattle.opl_writer.specs.Written.{items_field}
use Rattle.opl_writer.specs.Rows.{led}

led-join : (mark item : List ℕ) (items : List (List ℕ)) → led mark (item ∷ items) ≡ mark ++ join_with_byte 44 (item ∷ items)
led-join mark item [] = append-nil (mark ++ item)
led-join mark item (next ∷ items) = ap (λ (xs : List ℕ). mark ++ item ++ xs) (led-join (44 ∷ []) next items) ∙ append_assoc mark item (44 ∷ join_with_byte 44 (next ∷ items))

-- items in a row, the first behind a space and a letter, are a field
pub led-field : (letter : ℕ) (items : List (List ℕ)) → led (32 ∷ letter ∷ []) items ≡ items_field (letter ∷ []) items
led-field letter [] = refl
led-field letter (item ∷ items) = led-join (32 ∷ letter ∷ []) item items
