-- The stack that cuts rings off a walk.
use Rattle.std.specs.Prelude.{List, [], cond, ◌++◌, ◌∷◌}
use Rattle.plane.specs.Edge.{Edge}
use Rattle.plane.specs.Vector.{Vector, same_point}

-- the edges before the first that begins at v
abbrev pub before_at : Vector → List Edge → List Edge
before_at v [] = []
before_at v (e ∷ es) = cond (same_point v e.from) [] (e ∷ before_at v es)

-- that edge and all after it
abbrev pub from_at : Vector → List Edge → List Edge
from_at v [] = []
from_at v (e ∷ es) = cond (same_point v e.from) (e ∷ es) (from_at v es)

abbrev pub with_piece : List Edge → List (List Edge) → List (List Edge)
with_piece [] ps = ps
with_piece (e ∷ p) ps = (e ∷ p) ∷ ps

-- The rings, if the stack holds the first list. An edge is pushed.
-- If an edge of the stack begins at its end, everything from there on is a ring.
abbrev pub cut_off : List Edge → List Edge → List (List Edge)
cut_off st [] = []
cut_off st (e ∷ es) = with_piece (from_at e.to (st ++ (e ∷ []))) (cut_off (before_at e.to (st ++ (e ∷ []))) es)

abbrev pub cut_all : List (List Edge) → List (List Edge)
cut_all [] = []
cut_all (w ∷ ws) = cut_off [] w ++ cut_all ws
