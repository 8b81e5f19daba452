-- Closed lists of edges whose points are each moved a little, as statements.
use Rattle.std.specs.Prelude.{All, List, ◌%◌, ◌≡◌}
use lib.IntN.{ℤ}
use Rattle.lists.specs.Member.{In}
use Rattle.plane.specs.Edge.{Edge}
use Rattle.plane.specs.RayCrossing.{IsOffEdge}
use Rattle.plane.specs.Vector.{Vector, east}
use Rattle.plane_lists.specs.Rounded.Square.{HasNoPointNear, IsNear, moved_edges}
use Rattle.plane_lists.specs.Lists.EdgeList.{IsBalanced, crossing_count, winding_number}

-- both ends of each edge are moved by at most h in x and in y
abbrev pub AreMovedWithin : ℤ → (Vector → Vector) → (Vector → Vector) → List Edge → Type 0
AreMovedWithin h f g es = (e : Edge) → In e es → IsNear h (f e.from) (g e.from) × IsNear h (f e.to) (g e.to)

-- a point whose square meets no edge of one image is on no edge of the other
abbrev pub MovedIsOff : Type 0
MovedIsOff =
    (h : ℤ) (f g : Vector → Vector) (es : List Edge) → AreMovedWithin h f g es → (p : Vector) →
    All (HasNoPointNear h p) (moved_edges f es) → All (IsOffEdge p) (moved_edges g es)

-- both images of a closed list go round such a point alike
abbrev pub MovedWindsAlike : Type 0
MovedWindsAlike =
    (h : ℤ) (f g : Vector → Vector) (es : List Edge) → IsBalanced es → AreMovedWithin h f g es → (p : Vector) →
    All (HasNoPointNear h p) (moved_edges f es) →
    winding_number east p (moved_edges g es) ≡ winding_number east p (moved_edges f es)

-- they have the same parity of crossings
abbrev pub MovedIsOddAlike : Type 0
MovedIsOddAlike =
    (h : ℤ) (f g : Vector → Vector) (es : List Edge) → IsBalanced es → AreMovedWithin h f g es → (p : Vector) →
    All (HasNoPointNear h p) (moved_edges f es) →
    crossing_count east p (moved_edges g es) % 2 ≡ crossing_count east p (moved_edges f es) % 2
