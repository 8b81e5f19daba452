-- Members of a list, and pairs of them.
use Rattle.std.specs.Prelude.{All, List, [], ◌∷◌, ◌≡◌, ◌⊎◌}

abbrev pub In : {X : Type 0} → X → List X → Type 0
In y [] = ⊥
In y (x ∷ xs) = (y ≡ x) ⊎ In y xs

-- R holds of each two elements, the first of which stands before the second
abbrev pub EachPair : {X : Type 0} → (X → X → Type 0) → List X → Type 0
EachPair R [] = Unit {0}
EachPair R (x ∷ xs) = All (R x) xs × EachPair R xs
