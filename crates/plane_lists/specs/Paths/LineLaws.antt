-- Lines that meet no edge, as statements.
use Rattle.std.specs.Prelude.{All, List, ◌↔◌, ◌≡◌}
use lib.IntN.{ℤ}
use Rattle.plane_lists.specs.Paths.Line.{IsApart, Joined, ShareNoPoint}
use Rattle.plane.specs.Edge.{Edge}
use Rattle.plane.specs.RayCrossing.{IsOffEdge}
use Rattle.plane.specs.Scale.{scaled_point}
use Rattle.plane.specs.Sign.{Plus, sign}
use Rattle.plane.specs.Vector.{Vector, east}
use Rattle.plane_lists.specs.Lists.EdgeList.{IsBalanced, winding_number}
use Rattle.plane_lists.specs.Lists.ScaledEdges.{scaled_edges}

-- a straight line keeps a step apart from an edge, which is more than a point, exactly if the two share no point
abbrev pub ApartSharesNoPoint : Type 0
ApartSharesNoPoint =
    (p q : Vector) (e : Edge) → (e.from ≡ e.to → ⊥) → IsApart p q e ↔ ShareNoPoint p q e

-- a point off the list is joined to itself
abbrev pub JoinedToItself : Type 0
JoinedToItself = (es : List Edge) (p : Vector) → All (IsOffEdge p) es → Joined es p p

abbrev pub JoinedIsSymmetric : Type 0
JoinedIsSymmetric = (es : List Edge) (p q : Vector) → Joined es p q → Joined es q p

abbrev pub JoinedIsTransitive : Type 0
JoinedIsTransitive = (es : List Edge) (p q r : Vector) → Joined es p q → Joined es q r → Joined es p r

-- joined points are off the list
abbrev pub JoinedIsOff : Type 0
JoinedIsOff = (es : List Edge) (p q : Vector) → Joined es p q → All (IsOffEdge p) es

-- the winding number of a closed list is the same at joined points
abbrev pub JoinedWindsAlike : Type 0
JoinedWindsAlike =
    (es : List Edge) → IsBalanced es → (p q : Vector) → Joined es p q →
    winding_number east p es ≡ winding_number east q es

-- nothing changes if all is multiplied by a positive number
abbrev pub ScaledIsJoined : Type 0
ScaledIsJoined =
    (k : ℤ) → sign k ≡ Plus → (es : List Edge) (p q : Vector) →
    Joined (scaled_edges k es) (scaled_point k p) (scaled_point k q) ↔ Joined es p q
