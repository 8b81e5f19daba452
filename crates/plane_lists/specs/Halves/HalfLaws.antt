-- The laws of halves, as statements.
use Rattle.std.specs.Prelude.{All, List, ◌≡◌}
use lib.IntN.{pos, ℤ}
use Rattle.plane.specs.RayCrossing.{IsOffEdge}
use Rattle.plane.specs.Sign.{Minus, Plus, sign}
use Rattle.plane.specs.Vector.{IsNonZero, Vector, east}
use Rattle.plane_lists.specs.Lists.ConflictFree.{IsConflictFree}
use Rattle.plane_lists.specs.Lists.EdgeList.{IsBalanced, winding_number}
use Rattle.plane_lists.specs.Lists.Ring.{segments_of}
use Rattle.plane_lists.specs.Lists.ScaledEdges.{scaled_edges}
use Rattle.plane_lists.specs.Lists.Sided.{IsSided}
use Rattle.plane_lists.specs.Halves.Half.{AreMeetings, Cutting, IsCut, half, parts, wholes}
use Rattle.plane_lists.specs.Halves.Line.{Line, scaled_line, side}

-- what a half is made of: a sided list, its parts at a line, and their end points on the line
pub record IsHalved (l : Line) (cs : List Cutting) (zs : List Vector) : Type 0 where
  pub direction : IsNonZero l.along
  pub sided : IsSided (wholes cs)
  pub cut : IsCut l cs
  pub meetings : AreMeetings l (parts l cs) zs

abbrev pub HalfIsBalanced : Type 0
HalfIsBalanced = (l : Line) (cs : List Cutting) (zs : List Vector) → IsHalved l cs zs → IsBalanced (half l cs zs)

-- no two edges of a half share a point that isn't an end of both
abbrev pub HalfIsPlain : Type 0
HalfIsPlain = (l : Line) (cs : List Cutting) (zs : List Vector) → IsHalved l cs zs → IsConflictFree (segments_of (half l cs zs))

-- at the points p.x / q, p.y / q strictly on the kept side and off the list, the half has the list's signed count
abbrev pub HalfKeepsCount : Type 0
HalfKeepsCount =
    (l : Line) (cs : List Cutting) (zs : List Vector) → IsHalved l cs zs → (q : ℤ) → sign q ≡ Plus → (p : Vector) →
    side (scaled_line q l) p ≡ Plus → All (IsOffEdge p) (scaled_edges q (wholes cs)) →
    winding_number east p (scaled_edges q (half l cs zs)) ≡ winding_number east p (scaled_edges q (wholes cs))

-- at all points strictly on the other side it has 0
abbrev pub HalfIsEmptyBeyond : Type 0
HalfIsEmptyBeyond =
    (l : Line) (cs : List Cutting) (zs : List Vector) → IsHalved l cs zs → (q : ℤ) → sign q ≡ Plus → (p : Vector) →
    side (scaled_line q l) p ≡ Minus → winding_number east p (scaled_edges q (half l cs zs)) ≡ pos 0

abbrev pub HalfIsSided : Type 0
HalfIsSided = (l : Line) (cs : List Cutting) (zs : List Vector) → IsHalved l cs zs → IsSided (half l cs zs)
