-- Rings that begin at another edge.
use Rattle.std.specs.Prelude.{List, [], ◌∷◌, ◌≡◌}
use Rattle.lists.specs.Rotated.{IsRotated}
use Rattle.plane.specs.Edge.{Edge}

-- each ring of the second list is that of the first with another beginning
abbrev pub AreRotated : List (List Edge) → List (List Edge) → Type 0
AreRotated [] qs = qs ≡ []
AreRotated (r ∷ rs) qs = (q : List Edge) × (ts : List (List Edge)) × (qs ≡ q ∷ ts) × IsRotated r q × AreRotated rs ts
