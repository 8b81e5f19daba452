-- The ends of parts on the line as a sorted list, and the edges that a walk along it leaves. No public contract cites them.
use Rattle.std.specs.Prelude.{Bool, List, [], cond, false, length, true, ℕ, ◌++◌, ◌+◌, ◌-◌, ◌∷◌, ◌≡◌, ◌||◌, not}
use Rattle.std.specs.List.Sorted.{IsPermutation, IsSortedBy}
use Rattle.plane.specs.Sign.{Null, is_null, is_plus}
use Rattle.plane_lists.specs.Lists.Parity.{is_even}
use Rattle.osm_geom.specs.declared.cut.Cut.{Cut}
use Rattle.osm_geom.specs.declared.cut.Side.{Side}
use Rattle.osm_geom.specs.declared.edge.Edge.{Edge}
use Rattle.osm_geom.specs.declared.point.Point.{Point}
use Rattle.osm_geom.specs.Cut.{cut_order}
use Rattle.osm_geom.specs.Point.{IsInWorld}
use Rattle.coast_split.specs.Half.{IsLink, NextLink, line_order, runs_forward}

-- p, if it is on the line
abbrev pub end_on : Cut → Point → List Point
end_on cut p = cond (is_null (cut_order cut p)) (p ∷ []) []

-- the ends of the edges that are on the line
abbrev pub ends_on : Cut → List Edge → List Point
ends_on cut [] = []
ends_on cut (t ∷ ts) = end_on cut t.from ++ (end_on cut t.to ++ ends_on cut ts)

-- how many of n ends are at or before the lower of two neighbours, if i of them are at or before the first of the two along the line
abbrev pub up_to_lower : Cut → Side → ℕ → ℕ → ℕ
up_to_lower cut side n i = cond (runs_forward cut.axis side) i (n - i)

-- There is no edge between z, the i-th of n ends, and w, the next one: they are equal, or the number of ends up to the lower is even.
abbrev pub is_skipped : Cut → Side → ℕ → ℕ → Point → Point → Bool
is_skipped cut side n i z w = not (is_plus (line_order cut side z w)) || is_even (up_to_lower cut side n i)

-- ls are the edges that a walk leaves from z, the i-th of n ends, through those that follow
abbrev pub IsWalkFrom : Cut → Side → ℕ → ℕ → Point → List Point → List Edge → Type 0
IsWalkFrom cut side n i z [] ls = ls ≡ []
IsWalkFrom cut side n i z (w ∷ r) ls = NextLink cut z w (is_skipped cut side n i z w) (IsWalkFrom cut side n (i + 1) w r) ls

-- the last point of a walk
abbrev pub last_of_walk : Point → List Point → Point
last_of_walk z [] = z
last_of_walk z (w ∷ r) = last_of_walk w r

-- the walk over a whole list
abbrev pub AreWalked : Cut → Side → List Point → List Edge → Type 0
AreWalked cut side [] ls = ls ≡ []
AreWalked cut side (z ∷ r) ls = IsWalkFrom cut side (length (z ∷ r)) 1 z r ls

-- the list with the edge from z to w, unless it is skipped
abbrev pub AddsLink : Cut → Point → Point → Bool → List Edge → List Edge → Type 0
AddsLink cut z w true old new = new ≡ old
AddsLink cut z w false old new = (e : Edge) × IsLink cut z w e × (new ≡ old ++ e ∷ [])

-- the list with the edges of a walk from the first of n ends through those that follow
abbrev pub AddsWalk : Cut → Side → ℕ → Point → List Point → List Edge → List Edge → Type 0
AddsWalk cut side n z r old new = (ls : List Edge) × IsWalkFrom cut side n 1 z r ls × (new ≡ old ++ ls)

-- the list with the edges of the walk over a whole list
abbrev pub AddsWalked : Cut → Side → List Point → List Edge → List Edge → Type 0
AddsWalked cut side zs old new = (ls : List Edge) × AreWalked cut side zs ls × (new ≡ old ++ ls)

-- an end on the line
pub record IsEndOnLine (cut : Cut) (p : Point) : Type 0 where
  pub on_line : cut_order cut p ≡ Null
  pub in_world : IsInWorld p

-- the ends of edges on the line, in order along it
pub record AreSortedEnds (cut : Cut) (side : Side) (ts : List Edge) (ends : List Point) : Type 0 where
  pub moved : IsPermutation (ends_on cut ts) ends
  pub sorted : IsSortedBy (λ (p q : Point). is_plus (line_order cut side p q)) ends
