-- The texts of inputs.
use Rattle.std.specs.Prelude.{ℕ, List, [], ◌∷◌, Option, None, Some}

-- a text for each of these names
abbrev pub Texts : List (List ℕ) → Type 0
Texts [] = Unit {0}
Texts (name ∷ names) = List ℕ × Texts names

abbrev pub both : {A B : Type 0} → Option A → Option B → Option (A × B)
both None more = None
both (Some first) None = None
both (Some first) (Some more) = Some (first, more)

-- the texts that are the contents behind these names, if all of them are known
abbrev pub told_texts : (List ℕ → Option (List ℕ)) → (names : List (List ℕ)) → Option (Texts names)
told_texts named [] = Some tt
told_texts named (name ∷ names) = both (named name) (told_texts named names)
