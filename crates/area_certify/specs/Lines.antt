-- The lines of a text: its bytes, split after each LF.
use Rattle.std.specs.Prelude.{ℕ, ◌==◌, List, [], ◌∷◌, if◌then◌else◌}
use Rattle.std.specs.List.{onto_first}

-- each line with the LF that ends it; text after the last LF, if any, is a line too
abbrev pub text_lines : List ℕ → List (List ℕ)
text_lines [] = []
text_lines (byte ∷ text) = if byte == 10 then (byte ∷ []) ∷ text_lines text else onto_first byte (text_lines text)
