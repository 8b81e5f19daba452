-- Lists without repetition.
use Rattle.std.specs.Prelude.{Bool, not, List, [], ◌∷◌, filter}

-- each item of a list once, at its first place: the first, and then each of the rest that is not equal to it
abbrev pub each_once : {X : Type 0} → (X → X → Bool) → List X → List X
each_once eq [] = []
each_once eq (x ∷ xs) = x ∷ filter (λ y. not (eq x y)) (each_once eq xs)
