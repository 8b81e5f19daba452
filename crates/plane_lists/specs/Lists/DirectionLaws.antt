-- The crossings of a ray from a point off a list, in each direction, as statements.
use Rattle.std.specs.Prelude.{All, List, ◌%◌, ◌+◌, ◌≡◌}
use lib.IntN.{pos, ◌-ℤ◌}
use Rattle.plane.specs.Edge.{Edge}
use Rattle.plane.specs.RayCrossing.{IsOffEdge}
use Rattle.plane.specs.Vector.{IsNonZero, Vector}
use Rattle.plane_lists.specs.Lists.EdgeList.{IsBalanced, IsEvenAtPoints, crossing_count, starts_in, stops_in, winding_number}

-- turning the ray from d to e takes from the winding number what ends in the sector between, and adds what begins there
abbrev pub TurningChangesWinding : Type 0
TurningChangesWinding =
    (d e p : Vector) → IsNonZero d → IsNonZero e → (es : List Edge) → All (IsOffEdge p) es →
    winding_number d p es -ℤ winding_number e p es ≡ pos (stops_in d e p es) -ℤ pos (starts_in d e p es)

-- it changes the parity by the number of all ends in the sector
abbrev pub TurningChangesParity : Type 0
TurningChangesParity =
    (d e p : Vector) → IsNonZero d → IsNonZero e → (es : List Edge) → All (IsOffEdge p) es →
    (crossing_count d p es + crossing_count e p es) % 2 ≡ (starts_in d e p es + stops_in d e p es) % 2

-- for a list that leaves each point as often as it enters it, the winding number is the same in every direction
abbrev pub WindingIsDirectionFree : Type 0
WindingIsDirectionFree =
    (d e p : Vector) → IsNonZero d → IsNonZero e → (es : List Edge) → All (IsOffEdge p) es →
    IsBalanced es → winding_number d p es ≡ winding_number e p es

-- for a list that is even at points, the parity is the same in every direction
abbrev pub ParityIsDirectionFree : Type 0
ParityIsDirectionFree =
    (d e p : Vector) → IsNonZero d → IsNonZero e → (es : List Edge) → All (IsOffEdge p) es →
    IsEvenAtPoints es → crossing_count d p es % 2 ≡ crossing_count e p es % 2
