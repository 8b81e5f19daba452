-- Items in a row, as the loops that write them see them. No public contract cites this.
use Rattle.std.specs.Prelude.{ℕ, List, [], ◌∷◌, ◌++◌, codes}

-- the first item after a mark, each other after a comma
abbrev pub led : List ℕ → List (List ℕ) → List ℕ
led mark [] = []
led mark (item ∷ items) = mark ++ item ++ led (codes ",") items
