-- Successors, walks, and the pieces that are cut off a walk.
use Rattle.std.specs.Prelude.{List, [], false, length, true, ℕ, ◌++◌, ◌<◌, ◌∷◌, ◌≡◌}
use Rattle.std.specs.List.{sum_by}
use Rattle.plane_lists.specs.Rings.Cover.{covers_edge}
use Rattle.plane_lists.specs.Rings.Nesting.{edges_of}
use Rattle.plane.specs.Edge.{Edge, ends_at, other_end, same_edge, segment_of}
use Rattle.plane.specs.Sector.{in_sector}
use Rattle.plane.specs.Vector.{Vector, from_to}
use Rattle.lists.specs.Member.{In}
use Rattle.plane_lists.specs.Lists.Ring.{IsRing, segments_of}

-- f is the first edge at v that is met when turning clockwise from e, an edge at v: no other is in the sector from f counterclockwise to e
pub record IsNextClockwise (v : Vector) (e f : Edge) (es : List Edge) : Type 0 where
  pub member : In f es
  pub meets : ends_at v f ≡ true
  pub other : same_edge e f ≡ false
  pub first :
      (g : Edge) → In g es → ends_at v g ≡ true → same_edge e g ≡ false → same_edge f g ≡ false →
      in_sector (from_to v (other_end v f)) (from_to v (other_end v e)) (from_to v (other_end v g)) ≡ 0

-- f is the successor of e: the first edge that is met when turning clockwise, at the end of e, from the direction back along it
abbrev pub IsSuccessor : List Edge → Edge → Edge → Type 0
IsSuccessor es e f = IsNextClockwise e.to e f es

-- each is next to the one before it, the first to z
abbrev pub Follow : {X : Type 0} → (X → X → Type 0) → X → List X → Type 0
Follow T z [] = Unit {0}
Follow T z (x ∷ xs) = T z x × Follow T x xs

abbrev pub last : {X : Type 0} → X → List X → X
last z [] = z
last z (x ∷ xs) = last x xs

-- a cyclic list: the first is next to the last
pub record IsCycle {X : Type 0} (T : X → X → Type 0) (xs : List X) : Type 0 where
  pub end : X
  pub closed : last end xs ≡ end
  pub steps : Follow T end xs

-- a cycle of successors
pub record IsWalk (es w : List Edge) : Type 0 where
  pub here : (e : Edge) → In e w → In e es
  pub cycle : IsCycle (IsSuccessor es) w

-- The pieces, in the order in which they are cut off: each is a ring, and is unbroken in what the earlier ones have left.
abbrev pub Cuts : List Edge → List (List Edge) → Type 0
Cuts w [] = w ≡ []
Cuts w (p ∷ ps) = (a : List Edge) × (b : List Edge) × (w ≡ a ++ (p ++ b)) × (0 < length p) × IsRing p × Cuts (a ++ b) ps

-- the pieces of the walks, one walk after the other
abbrev pub AreCuts : List (List Edge) → List (List Edge) → Type 0
AreCuts [] rs = rs ≡ []
AreCuts (w ∷ ws) rs = (ps : List (List Edge)) × (qs : List (List Edge)) × (rs ≡ ps ++ qs) × Cuts w ps × AreCuts ws qs

-- the same edges, equally often: every sum over one is that over the other
abbrev pub HasSameEdges : List Edge → List Edge → Type 0
HasSameEdges xs ys = (f : Edge → ℕ) → sum_by f xs ≡ sum_by f ys

-- rs covers all edges of ss or none
abbrev pub CoversAllOrNone : List Edge → List Edge → Type 0
CoversAllOrNone rs ss =
    (x y : Edge) → In x ss → In y ss →
    covers_edge (segments_of rs) (segment_of x) ≡ covers_edge (segments_of rs) (segment_of y)

-- a list of walks of es that together hold each edge of es once
pub record AreWalks (es : List Edge) (ws : List (List Edge)) : Type 0 where
  pub walk : (w : List Edge) → In w ws → IsWalk es w
  pub whole : HasSameEdges (edges_of ws) es
