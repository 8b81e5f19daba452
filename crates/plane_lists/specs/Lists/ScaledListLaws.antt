-- Lists multiplied by a positive number, as statements.
-- A point X/k, Y/k lies to a list as the point X, Y lies to the list multiplied by k.
use Rattle.std.specs.Prelude.{List, ◌%◌, ◌≡◌}
use lib.IntN.{pos, ℤ}
use Rattle.plane.specs.Edge.{Edge}
use Rattle.plane.specs.Scale.{scaled_point}
use Rattle.plane.specs.Sign.{Plus, sign}
use Rattle.plane.specs.Vector.{Vector, east}
use Rattle.plane_lists.specs.Lists.ConflictFree.{IsConflictFree}
use Rattle.plane_lists.specs.Lists.EdgeList.{IsEvenAtPoints, crossing_count, winding_number}
use Rattle.plane_lists.specs.Lists.OddSide.{directed}
use Rattle.plane_lists.specs.Lists.ScaledEdges.{scaled_edges}

abbrev pub ScaledIsConflictFree : Type 0
ScaledIsConflictFree =
    (k : ℤ) → sign k ≡ Plus → (es : List Edge) → IsConflictFree es → IsConflictFree (scaled_edges k es)

abbrev pub ScaledIsEven : Type 0
ScaledIsEven =
    (k : ℤ) → sign k ≡ Plus → (es : List Edge) → IsEvenAtPoints es → IsEvenAtPoints (scaled_edges k es)

-- the odd side of the multiplied list
abbrev pub ScaledIsDirectedAlike : Type 0
ScaledIsDirectedAlike =
    (k : ℤ) → sign k ≡ Plus → (es : List Edge) → directed (scaled_edges k es) ≡ scaled_edges k (directed es)

-- the count at a multiplied point
abbrev pub ScaledCountIsSame : Type 0
ScaledCountIsSame =
    (k : ℤ) → sign k ≡ Plus → (p : Vector) (es : List Edge) → IsConflictFree es →
    crossing_count east (scaled_point k p) (scaled_edges k es) ≡ crossing_count east p es

-- the winding number of the directed list is its parity at points with fractions too
abbrev pub DirectedWindsByParityAtFractions : Type 0
DirectedWindsByParityAtFractions =
    (k : ℤ) → sign k ≡ Plus → (p : Vector) (es : List Edge) → IsConflictFree es → IsEvenAtPoints es →
    winding_number east p (scaled_edges k (directed es)) ≡ pos (crossing_count east p (scaled_edges k es) % 2)
