-- Texts in a row, as the loops that print them see them.
use Rattle.std.specs.Prelude.{ℕ, List, [], ◌∷◌, ◌++◌}

-- the first text behind a byte, each other behind a comma
abbrev pub led_by_byte : ℕ → List (List ℕ) → List ℕ
led_by_byte byte [] = []
led_by_byte byte (text ∷ texts) = byte ∷ text ++ led_by_byte 44 texts
