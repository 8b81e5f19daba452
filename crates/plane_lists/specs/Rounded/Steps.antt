-- Edges that are a point, which two neighbours leave if they are rounded to one, and the list without them.
use Rattle.std.specs.Prelude.{Bool, List, filter, not, ◌≡◌}
use Rattle.plane.specs.Edge.{Edge}
use Rattle.plane.specs.Vector.{Vector, same_point}
use Rattle.plane_lists.specs.Lists.EdgeList.{IsBalanced, crossing_count, winding_number}

-- the edge is more than a point
abbrev pub is_step : Edge → Bool
is_step e = not (same_point e.from e.to)

abbrev pub steps : List Edge → List Edge
steps es = filter is_step es

-- leaving out the points changes no winding number
abbrev pub StepsWindAlike : Type 0
StepsWindAlike = (d p : Vector) (es : List Edge) → winding_number d p (steps es) ≡ winding_number d p es

-- it changes no count
abbrev pub StepsAreCrossedAlike : Type 0
StepsAreCrossedAlike = (d p : Vector) (es : List Edge) → crossing_count d p (steps es) ≡ crossing_count d p es

-- it leaves a closed list closed
abbrev pub StepsAreBalanced : Type 0
StepsAreBalanced = (es : List Edge) → IsBalanced es → IsBalanced (steps es)
